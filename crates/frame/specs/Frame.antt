-- rule: the frame rules of SML transport version 1, in document 01's words.
use Rattle.std.specs.Prelude.{◌≡◌, Bool, true, false, cond, List, [], ◌∷◌, ◌++◌, ℕ, suc, ◌-◌, ◌/◌, ◌%◌, ◌≤◌, length, take, replicate, eqb}
use Rattle.crc_x25.specs.Crc.{crc_of}

abbrev pub esc_seq : List ℕ
esc_seq = 0x1b ∷ 0x1b ∷ 0x1b ∷ 0x1b ∷ []

abbrev pub restart_seq : List ℕ
restart_seq = 0x01 ∷ 0x01 ∷ 0x01 ∷ 0x01 ∷ []

abbrev pub start_seq : List ℕ
start_seq = esc_seq ++ restart_seq

-- are two lists of bytes the same?
unfoldable pub same : List ℕ → List ℕ → Bool
same [] [] = true
same [] (y ∷ ys) = false
same (x ∷ xs) [] = false
same (x ∷ xs) (y ∷ ys) = cond (eqb x y) (same xs ys) false

-- the 1b of a run that stand behind its last fourth one, with the byte b more
abbrev pub run_with : ℕ → ℕ → ℕ
run_with n b = cond (eqb b 0x1b) (cond (eqb n 3) 0 (suc n)) 0

-- what follows the byte b: four more 1b where it is a fourth one
abbrev pub four_more : ℕ → ℕ → List ℕ
four_more n b = cond (eqb b 0x1b) (cond (eqb n 3) esc_seq []) []

-- in each run of 1b, four more 1b follow every fourth one; n of the run stand before these bytes
unfoldable pub escaped : ℕ → List ℕ → List ℕ
escaped n [] = []
escaped n (b ∷ bs) = b ∷ (four_more n b ++ escaped (run_with n b) bs)

-- the 1b of a run that stand behind these bytes, since its last fourth one; n of the run stand before them
unfoldable pub run_behind : ℕ → List ℕ → ℕ
run_behind n [] = n
run_behind n (b ∷ bs) = run_behind (run_with n b) bs

-- bytes missing to a multiple of 4
abbrev pub missing : ℕ → ℕ
missing n = (4 - n % 4) % 4

-- bytes, then the CRC over all of them, low byte first
unfoldable pub closed : List ℕ → List ℕ
closed bs = bs ++ (crc_of bs % 256 ∷ crc_of bs / 256 ∷ [])

-- start, escaped payload, 0 to 3 zero bytes, 1b1b1b1b 1a, the pad count, the CRC
unfoldable pub frame_of : List ℕ → List ℕ
frame_of payload =
    let pad = missing (length payload) in
    closed (start_seq ++ escaped 0 payload ++ replicate pad 0x00 ++ esc_seq ++ (0x1a ∷ pad ∷ []))

-- the frame of the data D that says p pad bytes
unfoldable pub framed : List ℕ → ℕ → List ℕ
framed D p = closed (start_seq ++ escaped 0 D ++ esc_seq ++ (0x1a ∷ p ∷ []))

-- `bytes` are a sound frame, and `payload` is its payload
pub record Sound (bytes payload : List ℕ) : Type 0 where
  pub D : List ℕ
  pub p : ℕ
  pub whole : bytes ≡ framed D p
  pub aligned : length D % 4 ≡ 0
  pub small : p ≤ 3
  pub within : p ≤ length D
  pub cut : payload ≡ take (length D - p) D
