-- What is proved of the definitions, over every text: proofs/Claims.antt has a value of each record.
-- Assumes nothing.
use Rattle.std.specs.Prelude.{ℕ, ◌+◌, ◌%◌, ◌≤◌, ◌<◌, ◌≡◌, true, false, cond, List, length}
use Rattle.text.specs.Text.{all, is_byte, starts_with}
use Rattle.text.specs.Place.{outcome, refused, over}
use Rattle.b64.specs.Lengths.{bytes_of, chars_of}
use Rattle.b64.specs.Table.{sextets}
use Rattle.b64.specs.B64.{sextet, Sextets, letter, in_alphabet, canonical, decode, encode, decoding}
use Rattle.b64.specs.Runs.{run_at, is_complete, decoded_of}

pub record B64Claims : Type 0 where
  -- the two ways of the alphabet undo each other
  pub letter_sextet : (c : ℕ) → in_alphabet c ≡ true → letter (sextet c) ≡ c
  pub sextet_letter : (v : ℕ) → v < 64 → sextet (letter v) ≡ v
  -- canonical texts and bytes stand for each other, one to one
  pub encode_decode : (t : List ℕ) → canonical t ≡ true → encode (decode t) ≡ t
  pub bytes_decode : (t : List ℕ) → canonical t ≡ true → all is_byte (decode t) ≡ true
  pub decode_encode : (b : List ℕ) → all is_byte b ≡ true → decode (encode b) ≡ b
  pub canonical_encode : (b : List ℕ) → all is_byte b ≡ true → canonical (encode b) ≡ true
  -- lengths, in the two units
  pub length_decode : (t : List ℕ) → length (decode t) ≡ bytes_of (length t)
  pub length_encode : (b : List ℕ) → length (encode b) ≡ chars_of (length b)

-- the table SEXTETS holds the sextet of each byte
pub record TableClaims : Type 0 where
  pub sextets_rule : Sextets sextets

-- what is decoded of a run
pub record RunClaims : Type 0 where
  -- every character of it is of the alphabet
  pub run_alphabet : (s : List ℕ) (at : ℕ) → all in_alphabet (run_at s at) ≡ true
  -- all of it is decoded where it is complete; else whole groups, and a further one doesn't stand there or doesn't fit
  pub all_of_complete : (size from : ℕ) (t : List ℕ) → is_complete size from t ≡ true → decoded_of size from t ≡ t
  pub groups_of_other : (size from : ℕ) (t : List ℕ) → is_complete size from t ≡ false → length (decoded_of size from t) % 4 ≡ 0
  pub most_of_other : (size from : ℕ) (t : List ℕ) → is_complete size from t ≡ false → from + length (decode (decoded_of size from t)) + 3 ≤ size
      → length t < length (decoded_of size from t) + 4
  -- the run begins with it, and its bytes fit
  pub begins_decoded : (size from : ℕ) (t : List ℕ) → starts_with (decoded_of size from t) t ≡ true
  pub fits_decoded : (size from : ℕ) (t : List ℕ) → from ≤ size → from + length (decode (decoded_of size from t)) ≤ size
  -- the decoder of texts takes a text exactly where it is a complete run, and leaves the same bytes
  pub decoding_complete : (t buffer : List ℕ) (at : ℕ)
      → decoding t buffer at
      ≡ cond (is_complete (length buffer) at t) (outcome 0 (length (decode t)) (over buffer at (decode t))) (refused (cond (canonical t) 17 12) buffer)
