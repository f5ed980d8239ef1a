-- view: the bytes of a number, before the sign; a number itself is told as it is.
use Rattle.numbers.specs.Numbers.{Raw}
use Rattle.numbers.specs.declared.RawNum.{RawNum}

abbrev pub raw : RawNum → Raw
raw r = record { len = r.len; value = r.value }
