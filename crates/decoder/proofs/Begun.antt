-- The register behind the start sequence, which the code has as a number.
use mathlib.Core.Path.{◌≡◌, refl}
use Rattle.crc_x25.specs.Crc.{start, reflect, polynomial, bit_step, bit_steps, byte_step, register}
use Rattle.frame.specs.Frame.{start_seq}
use Rattle.decoder.specs.declared.TheConstants.{STARTED}

pub begun_register : STARTED ≡ register start start_seq
unfolding reflect polynomial bit_step bit_steps byte_step register
begun_register = refl
