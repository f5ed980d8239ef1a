-- rule: how a message's start, a list's end and the trailer are written.
use Rattle.std.specs.Prelude.{ℕ, List, [], ◌∷◌, ◌++◌}
use Rattle.tlf.specs.declared.Ty.TheVariants.{ListOf}
use Rattle.common.specs.Fields.{OpenResponse, CloseResponse}
use Rattle.message.specs.Messages.{ListStart, ListEnd, Body, open_body, close_body, list_body, MessageStart}
use Rattle.trailer.specs.Trailer.{swapped}
use Rattle.crc_x25.specs.Crc.{final_xor}
use Rattle.writer.specs.Fields.{write_tlf, write_unsigned, write_octets, write_optional, write_present, write_time}

unfoldable pub open_bytes : OpenResponse (List ℕ) → List ℕ
open_bytes x =
    write_tlf ListOf 6
    ++ write_optional write_present x.codepage
    ++ write_optional write_present x.client_id
    ++ write_octets x.req_file_id
    ++ write_octets x.server_id
    ++ write_optional write_time x.ref_time
    ++ write_optional write_unsigned x.sml_version

unfoldable pub close_bytes : CloseResponse (List ℕ) → List ℕ
close_bytes x = write_tlf ListOf 1 ++ write_optional write_present x.global_signature

-- up to the head of the list of entries, which says how many they are
unfoldable pub list_start_bytes : ListStart (List ℕ) → List ℕ
list_start_bytes x =
    write_tlf ListOf 7
    ++ write_optional write_present x.client_id
    ++ write_octets x.server_id
    ++ write_optional write_present x.list_name
    ++ write_optional write_time x.act_sensor_time
    ++ write_tlf ListOf x.num_vals

unfoldable pub list_end_bytes : ListEnd (List ℕ) → List ℕ
list_end_bytes x = write_optional write_present x.list_signature ++ write_optional write_time x.act_gateway_time

-- a body is a list of 2: tag and content
unfoldable pub write_body : Body (List ℕ) → List ℕ
write_body (open_body x) = write_tlf ListOf 2 ++ write_unsigned 0x00000101 ++ open_bytes x
write_body (close_body x) = write_tlf ListOf 2 ++ write_unsigned 0x00000201 ++ close_bytes x
write_body (list_body x) = write_tlf ListOf 2 ++ write_unsigned 0x00000701 ++ list_start_bytes x

unfoldable pub write_start : MessageStart (List ℕ) → List ℕ
write_start m =
    write_tlf ListOf 6
    ++ write_octets m.transaction_id
    ++ write_unsigned m.group_no
    ++ write_unsigned m.abort_on_error
    ++ write_body m.message_body

-- CRC, bytes swapped, and end byte, behind the bytes that the register has seen
unfoldable pub write_trailer : ℕ → List ℕ
write_trailer reg = write_unsigned (swapped (final_xor reg)) ++ (0x00 ∷ [])
