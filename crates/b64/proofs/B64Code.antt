-- What the code of B64 needs: the end of a text, the alphabet by tests, what the stores of the encoder leave, and four sextets as one number.
-- Assumes nothing.
use Prim.Native.Nat.{ℕ, suc, ◌+◌, ◌-◌, ◌*◌, ◌/◌, ◌%◌, ◌<◌, ◌≤◌}
use mathlib.Core.Path.{◌≡◌, refl, sym, ap, ◌∙◌}
use mathlib.Core.Bool.{Bool, true, false, not, cond, ◌&&◌, ◌||◌}
use mathlib.Core.List.{List, [], ◌∷◌, ◌++◌}
use native.Mathlib.Omega.{arith}
use lib.Dec.{eqb}
use lib.ListN.{length, get_or, take, drop, set, replicate}
use lib.Seq.{sets-eq}
use borrow.Author.Tests.{ltb-true, le-leb, lt-leb}
use Rattle.std.proofs.lemmas.List.{get_or-drop}
use Rattle.text.specs.Text.{within, all}
use Rattle.text.proofs.Lists.{all_at}
use Rattle.text.proofs.Table.{at}
use Rattle.b64.specs.B64.{sextet, letter, in_alphabet, last, low_bits_zero, canonical, char0, char1, char2, char3, encode, group_of}
use Rattle.b64.specs.B64Steps.{bits_of}
use Rattle.b64.proofs.B64Laws.{mod1, canonical_alphabet}

last_at : (t : List ℕ) → last t ≡ get_or t (length t - 1) 0
last_at [] = refl
last_at (c ∷ []) = refl
last_at (c ∷ d ∷ t) =
    let e : suc (suc (length t) - 1) ≡ suc (suc (length t)) - 1 = omega arith in
    last_at (d ∷ t) ∙ ap (λ (k : ℕ). get_or (c ∷ d ∷ t) k 0) e

-- the end of a text, by what its length leaves
module _ (t : List ℕ) where
  abbrev Ends : Bool → Type 0
  Ends r = r ≡ (not (eqb (length t % 4) 1) && low_bits_zero t)

  pub ends_0 : length t % 4 ≡ 0 → Ends true
  unfolding low_bits_zero
  ends_0 e = rw e (sym (mod1 (sextet (last t))))

  pub ends_2 : length t % 4 ≡ 2 → Ends (eqb (sextet (get_or t (length t - 1) 0) % 16) 0)
  unfolding low_bits_zero
  ends_2 e = rw (← last_at t, e)

  pub ends_3 : length t % 4 ≡ 3 → Ends (eqb (sextet (get_or t (length t - 1) 0) % 4) 0)
  unfolding low_bits_zero
  ends_3 e = rw (← last_at t, e)

  -- the last character, in the rest after the whole groups
  pub rest_last : (j : ℕ) → length t % 4 ≡ j + 1 → get_or (drop (length t / 4 * 4) t) j 0 ≡ get_or t (length t - 1) 0
  rest_last j e =
      let k : length t / 4 * 4 + j ≡ length t - 1 = omega arith in
      get_or-drop (length t / 4 * 4) t j 0 ∙ ap (λ (i : ℕ). get_or t i 0) k

  pub canonical_in : true ≡ all in_alphabet t → canonical t ≡ (not (eqb (length t % 4) 1) && low_bits_zero t)
  unfolding canonical
  canonical_in e = rw (← e)

  pub canonical_out : false ≡ all in_alphabet t → canonical t ≡ false
  unfolding canonical
  canonical_out e = rw (← e)

-- ---- the alphabet by ranges, and the rule of 01's table: one computed test ties the two

tests : ℕ → Bool
tests c = ((within 65 90 c || within 97 122 c) || within 47 57 c) || eqb c 43

agree : ℕ → ℕ → Bool
agree c _ = cond (in_alphabet c) (tests c) (not (tests c))

told : (a b : Bool) → cond a b (not b) ≡ true → b ≡ a
told true b e = e
told false true e = sym e
told false false e = refl

pub alphabet_tests : (c : ℕ) → c < 256 → (((within 65 90 c || within 97 122 c) || within 47 57 c) || eqb c 43) ≡ in_alphabet c
unfolding agree tests sextet
alphabet_tests c h = told (in_alphabet c) (tests c) (at agree (replicate 256 0) refl c h)

-- each character of a canonical text has a sextet
pub sextet_at : (t : List ℕ) → canonical t ≡ true → (i : ℕ) → i < length t → sextet (get_or t i 0) < 64
sextet_at t e i h = ltb-true _ _ (all_at in_alphabet t (canonical_alphabet t e) i h)

-- ---- the encoder, group by group

-- three bytes at the front, and those after them
pub record EncodeGroup (b g after : List ℕ) : Type 0 where
  pub size : length (encode g) ≡ 4
  pub rest : encode b ≡ encode g ++ encode after
  pub whole : 4 ≤ length (encode b)

pub encode_group : (b g after : List ℕ) → g ≡ take 3 b → after ≡ drop 3 b → 3 ≤ length b → EncodeGroup b g after
unfolding encode
encode_group [] g after eg ea h = absurd (omega arith)
encode_group (x ∷ []) g after eg ea h = absurd (omega arith)
encode_group (x ∷ y ∷ []) g after eg ea h = absurd (omega arith)
encode_group (x ∷ y ∷ z ∷ b) g after eg ea h = rw (eg, ea) (record { size = refl; rest = refl; whole = omega arith })

pub encode-none : (b : List ℕ) → length b ≡ 0 → encode b ≡ []
unfolding encode
encode-none [] h = refl
encode-none (x ∷ b) h = absurd (omega arith)

encode_one : (b : List ℕ) → length b ≡ 1 → encode b ≡ char0 (get_or b 0 0) ∷ char1 (get_or b 0 0) 0 ∷ []
unfolding encode
encode_one [] h = absurd (omega arith)
encode_one (x ∷ []) h = refl
encode_one (x ∷ y ∷ b) h = absurd (omega arith)

encode-two : (b : List ℕ) → length b ≡ 2 → encode b ≡ char0 (get_or b 0 0) ∷ char1 (get_or b 0 0) (get_or b 1 0) ∷ char2 (get_or b 1 0) 0 ∷ []
unfolding encode
encode-two [] h = absurd (omega arith)
encode-two (x ∷ []) h = absurd (omega arith)
encode-two (x ∷ y ∷ []) h = refl
encode-two (x ∷ y ∷ z ∷ b) h = absurd (omega arith)

encode-three : (b : List ℕ) → length b ≡ 3
    → encode b ≡ char0 (get_or b 0 0) ∷ char1 (get_or b 0 0) (get_or b 1 0) ∷ char2 (get_or b 1 0) (get_or b 2 0) ∷ char3 (get_or b 2 0) ∷ []
unfolding encode
encode-three [] h = absurd (omega arith)
encode-three (x ∷ []) h = absurd (omega arith)
encode-three (x ∷ y ∷ []) h = absurd (omega arith)
encode-three (x ∷ y ∷ z ∷ []) h = refl
encode-three (x ∷ y ∷ z ∷ w ∷ b) h = absurd (omega arith)

-- what the stores leave, where p, q, r, s are the letters that the code has looked up
module _ (b d : List ℕ) (p q r s : ℕ) (ep : p ≡ char0 (get_or b 0 0)) where
  pub one_stored : q ≡ letter (get_or b 0 0 % 4 * 16) → length b ≡ 1 → length (encode b) ≤ length d
      → set (set d 0 p) 1 q ≡ encode b ++ drop (length (encode b)) d
  one_stored eq n h =
      let w = encode_one b n in
      let z : get_or b 0 0 % 4 * 16 ≡ get_or b 0 0 % 4 * 16 + 0 = omega arith in
      let k : 2 ≤ length d = omega (arith, ap length w) in
      rw (ep, eq, z, sets-eq (_ ∷ _ ∷ []) d 0 k, w)

  pub two_stored : q ≡ char1 (get_or b 0 0) (get_or b 1 0) → r ≡ letter (get_or b 1 0 % 16 * 4) → length b ≡ 2 → length (encode b) ≤ length d
      → set (set (set d 0 p) 1 q) 2 r ≡ encode b ++ drop (length (encode b)) d
  two_stored eq er n h =
      let w = encode-two b n in
      let z : get_or b 1 0 % 16 * 4 ≡ get_or b 1 0 % 16 * 4 + 0 = omega arith in
      let k : 3 ≤ length d = omega (arith, ap length w) in
      rw (ep, eq, er, z, sets-eq (_ ∷ _ ∷ _ ∷ []) d 0 k, w)

  pub group_stored : q ≡ char1 (get_or b 0 0) (get_or b 1 0) → r ≡ char2 (get_or b 1 0) (get_or b 2 0) → s ≡ char3 (get_or b 2 0) → length b ≡ 3 → 4 ≤ length d
      → set (set (set (set d 0 p) 1 q) 2 r) 3 s ≡ encode b ++ drop 4 d
  group_stored eq er es n h = rw (ep, eq, er, es, sets-eq (_ ∷ _ ∷ _ ∷ _ ∷ []) d 0 h, encode-three b n)

-- ---- four sextets as one number

pub group_past : (a b c d : ℕ) → 252 < a + b + c + d → 16777216 ≡ group_of a b c d
group_past a b c d h = rw (lt-leb (a + b + c + d) 252 h)

pub group_bits : (a b c d : ℕ) → a + b + c + d ≤ 252 → bits_of a b c d ≡ group_of a b c d
group_bits a b c d h = rw (le-leb (a + b + c + d) 252 h)
