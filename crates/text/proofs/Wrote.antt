-- Texts put at the start of a buffer, one after the other: the laws of one text and of one more, and of any number of texts.
-- Assumes nothing.
use Prim.Native.Nat.{ℕ, ◌+◌, ◌-◌, ◌^◌, ◌≤◌, ◌<◌}
use mathlib.Core.List.{List, [], ◌∷◌, ◌++◌}
use mathlib.Core.Path.{◌≡◌, ◌∙◌, ap}
use native.Mathlib.Omega.{arith}
use lib.ListN.{length, take, drop, length-append, length-drop}
use mir.Syntax.{w64}
use mir.Val.{Fits}
use borrow.Rule.Slice.PartMut.{put_mid}
use Rattle.std.proofs.Common.{Result}
use Rattle.std.specs.Result.{IsOk}
use Rattle.refusals.specs.declared.Refusal.{Refusal}
use Rattle.text.specs.Place.{outcome, answered, over, put, Wrote}
use Rattle.text.proofs.Writers.{has_count}
use Rattle.text.proofs.Writing.{put-fits, tail_part}
use Rattle.text.proofs.Over.{over-over, over_then, length_over}

-- a text from the start on
pub wrote_start : (d d₁ t : List ℕ) (number count : ℕ) → length t ≤ length d → outcome number count d₁ ≡ put d 0 t → Wrote t d d₁ count
wrote_start d d₁ t number count h e =
    let w = put-fits d 0 t number count d₁ (omega arith) e in
    record { count_is = w.count_is; left = w.left_is }

-- the length of the buffer stays
pub wrote_length : (d d₁ t : List ℕ) (at : ℕ) → length t ≤ length d → Wrote t d d₁ at → length d₁ ≡ length d
wrote_length d d₁ t at h a = ap length a.left ∙ length_over d 0 t (omega arith)

-- and one more after it
pub wrote_more : (d d₁ d₂ t u : List ℕ) (at number count : ℕ) → length (t ++ u) ≤ length d → Wrote t d d₁ at
    → outcome number count d₂ ≡ put d₁ at u → Wrote (t ++ u) d d₂ (at + count)
wrote_more d d₁ d₂ t u at number count h a e =
    let l = length-append t u in
    let k = a.count_is in
    let n = wrote_length d d₁ t at (omega arith) a in
    let w = put-fits d₁ at u number count d₂ (omega arith) e in
    let z : at ≡ 0 + length t = omega arith in
    record {
      count_is = omega (arith, w.count_is);
      left = w.left_is ∙ (λ i. over (a.left i) (z i) u) ∙ over-over d 0 t u (omega arith);
    }

-- ---- any number of texts, each put after those before it

-- a text and those to come, joined as the contracts join them
abbrev pub together : List ℕ → List (List ℕ) → List ℕ
together t [] = t
together t (u ∷ us) = together (t ++ u) us

together-first : (t : List ℕ) (us : List (List ℕ)) → length t ≤ length (together t us)
together-first t [] = omega arith
together-first t (u ∷ us) = let h = together-first (t ++ u) us in omega (arith, length-append t u)

-- all of them fit a buffer, and its length is a usize: so no sum of their counts wraps
pub record AllFit (d t : List ℕ) (us : List (List ℕ)) : Type 0 where
  pub room : length (together t us) ≤ length d
  pub small : length d < 2 ^ 64

-- t was put at the start of d, which is now d₁, and counted; us are to come
pub record Chain (d t : List ℕ) (us : List (List ℕ)) (d₁ : List ℕ) (n : ℕ) : Type 0 where
  pub fits : AllFit d t us
  pub wrote : Wrote t d d₁ n

-- the first text
module _ {d t : List ℕ} {us : List (List ℕ)} (f : AllFit d t us) where
  pub first_room : length t ≤ length d
  first_room = let h = together-first t us in omega (arith, f.room)

  abbrev pub First : List ℕ → ℕ → Type 0
  First d₁ n = Chain d t us d₁ n

  pub first_wrote : {d₁ : List ℕ} {n : ℕ} → Wrote t d d₁ n → First d₁ n
  first_wrote w = record { fits = f; wrote = w }

  -- put by a writer from a place
  pub first-put : {d₁ : List ℕ} {number count : ℕ} → outcome number count d₁ ≡ put d 0 t → First d₁ count
  first-put {d₁} {number} {count} e = first_wrote (wrote_start d d₁ t number count first_room e)

-- after each text
module _ {d t : List ℕ} {us : List (List ℕ)} {d₁ : List ℕ} {n : ℕ} (a : Chain d t us d₁ n) where
  pub chain_sum : Fits w64 n
  chain_sum = let h = first_room a.fits in omega arith

  pub chain_length : length d₁ ≡ length d
  chain_length = wrote_length d d₁ t n (first_room a.fits) a.wrote

-- the next text
module _ {d t u : List ℕ} {us : List (List ℕ)} {d₁ : List ℕ} {n : ℕ} (a : Chain d t (u ∷ us) d₁ n) where
  next_fits : AllFit d (t ++ u) us
  next_fits = record { room = a.fits.room; small = a.fits.small }

  -- what is left has room for it
  pub next_room : (n ≤ length d₁) × (length u ≤ length (take (length d₁ - n) (drop n d₁)))
  next_room =
      let l = length-append t u in
      let h = first_room next_fits in
      let k = chain_length a in
      (omega arith, rw (tail_part d₁ n, length-drop) (omega arith))

  -- put at the start of what is left
  abbrev pub Next : List ℕ → ℕ → Type 0
  Next ys m = Chain d (t ++ u) us (put_mid n (length d₁ - n) d₁ ys) (n + m)

  pub next_wrote : {ys : List ℕ} {m : ℕ} → Wrote u (take (length d₁ - n) (drop n d₁)) ys m → Next ys m
  next_wrote {ys} {m} w =
      let l = length-append t u in
      let h = first_room next_fits in
      record {
        fits = next_fits;
        wrote =
            record {
              count_is = omega (arith, w.count_is);
              left = over_then d d₁ 0 n t u ys (omega arith) a.wrote.left (omega arith) w.left;
            };
      }

  -- put by a writer from a place
  abbrev pub More : List ℕ → ℕ → Type 0
  More d₂ count = Chain d (t ++ u) us d₂ (n + count)

  pub next_put : {d₂ : List ℕ} {number count : ℕ} → outcome number count d₂ ≡ put d₁ n u → More d₂ count
  next_put {d₂} {number} {count} e =
      record { fits = next_fits; wrote = wrote_more d d₁ d₂ t u n number count (first_room next_fits) a.wrote e }

  -- and where there is room for it, the writer's answer is a count
  pub next_counted : {A : Type 0} (size : A → ℕ) (w : Result A Refusal) (d₂ : List ℕ) → answered size w d₂ ≡ put d₁ n u → IsOk w
  next_counted size w d₂ e =
      let l = length-append t u in
      let h = first_room next_fits in
      let k = chain_length a in
      let c = a.wrote.count_is in
      has_count size w d₁ d₂ u n (omega arith) e
