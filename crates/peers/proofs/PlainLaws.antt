-- What the plain decoder needs: the last sextet of a text and how it may end, and the bytes that a rest of a text completes.
-- Assumes nothing.
use Prim.Native.Nat.{ℕ, ◌+◌, ◌%◌, ◌<◌, ◌≤◌}
use mathlib.Core.Path.{◌≡◌, refl, sym, ap, ◌∙◌}
use mathlib.Core.Bool.{Bool, true, not, ◌&&◌}
use mathlib.Core.List.{List, [], ◌∷◌, ◌++◌}
use native.Mathlib.Omega.{arith}
use native.Mathlib.Numerals.{add-one}
use lib.Dec.{eqb}
use lib.ListN.{length, get_or, drop}
use lib.Seq.{drop-cons}
use Rattle.text.specs.Text.{all}
use Rattle.text.specs.Place.{over}
use Rattle.text.proofs.Groups.{Partly, partly_step}
use Rattle.b64.specs.B64.{sextet, in_alphabet, last, low_bits_modulus, low_bits_zero, canonical, decode}
use Rattle.b64.proofs.B64Code.{canonical_in}
use Rattle.peers.specs.PlainSteps.{completed_bytes}

-- ---- how a text may end

-- the last sextet of a rest of a text, which begins after a sextet
abbrev pub last_sextet : ℕ → List ℕ → ℕ
last_sextet prior [] = prior
last_sextet prior (c ∷ t) = last_sextet (sextet c) t

last-sextet : (t : List ℕ) (c prior : ℕ) → last_sextet prior (c ∷ t) ≡ sextet (last (c ∷ t))
last-sextet [] c prior = refl
last-sextet (d ∷ t) c prior = last-sextet t d (sextet c)

low_bits : (t : List ℕ) → eqb (last_sextet 0 t % low_bits_modulus (length t % 4)) 0 ≡ low_bits_zero t
unfolding low_bits_zero sextet
low_bits [] = refl
low_bits (c ∷ t) = ap (λ (v : ℕ). eqb (v % low_bits_modulus (length (c ∷ t) % 4)) 0) (last-sextet t c 0)

pub canonical_end : (t : List ℕ) → true ≡ all in_alphabet t
    → (not (eqb (length t % 4) 1) && eqb (last_sextet 0 t % low_bits_modulus (length t % 4)) 0) ≡ canonical t
canonical_end t e = ap (λ (b : Bool). not (eqb (length t % 4) 1) && b) (low_bits t) ∙ sym (canonical_in t e)

-- ---- the bytes, character by character

-- the bytes that a rest of a text completes, which begins at a place of a group, after a sextet
abbrev pub completed_from : ℕ → ℕ → List ℕ → List ℕ
completed_from place prior [] = []
completed_from place prior (c ∷ t) = completed_bytes place prior (sextet c) ++ completed_from ((place + 1) % 4) (sextet c) t

pub completed_decode : (t : List ℕ) (prior : ℕ) → completed_from 0 prior t ≡ decode t
unfolding decode
completed_decode [] prior = refl
completed_decode (a ∷ []) prior = refl
completed_decode (a ∷ b ∷ []) prior = refl
completed_decode (a ∷ b ∷ c ∷ []) prior = refl
completed_decode (a ∷ b ∷ c ∷ d ∷ t) prior = rw (completed_decode t (sextet d))

-- one turn of the loop, at the character i with the sextet own
module _ (t d₀ d : List ℕ) (i o prior own : ℕ) (h : i < length t) (e : own ≡ sextet (get_or t i 0))
    (p : Partly (decode t) d₀ d o (completed_from (i % 4) prior (drop i t))) (fit : length (decode t) ≤ length d₀) where
  split : completed_from (i % 4) prior (drop i t) ≡ completed_bytes (i % 4) prior own ++ completed_from ((i + 1) % 4) own (drop (i + 1) t)
  split = let m : (i % 4 + 1) % 4 ≡ (i + 1) % 4 = omega arith in rw (drop-cons t i 0 h, m, e, add-one)

  next : Partly (decode t) d₀ d o (completed_bytes (i % 4) prior own ++ completed_from ((i + 1) % 4) own (drop (i + 1) t))
  next = rw split at p

  pub next_step : (o' : ℕ) (d' : List ℕ) → o' ≡ o + length (completed_bytes (i % 4) prior own) → d' ≡ over d o (completed_bytes (i % 4) prior own)
      → Partly (decode t) d₀ d' o' (completed_from ((i + 1) % 4) own (drop (i + 1) t))
  next_step o' d' eo ed =
      rw (eo, ed) (partly_step (decode t) d₀ d o (completed_bytes (i % 4) prior own) (completed_from ((i + 1) % 4) own (drop (i + 1) t)) next fit)
