-- The chunks of a slice, one by one.
-- Assumes nothing.
use Prim.Native.Nat.{ℕ, zero, suc, ◌+◌, ◌*◌, ◌/◌, ◌<◌}
use mathlib.Core.Path.{◌≡◌, refl, ap, ◌∙◌}
use mathlib.Core.List.{List, []}
use native.Mathlib.Omega.{arith}
use lib.ListN.{length, get_or, take, drop}
use lib.Seq.{drop-drop}
use Rattle.std.proofs.lemmas.List.{get_or-take, get_or-drop}
use Rattle.std.specs.Simd.{first_chunks}
use Rattle.b64.specs.B64Steps.{group_at}

pub chunk_at : {X : Type 0} (n k j : ℕ) (xs y : List X) → j < k → get_or (first_chunks n k xs) j y ≡ take n (drop (j * n) xs)
chunk_at n zero j xs y h = absurd (omega arith)
chunk_at n (suc k) zero xs y h = let e : 0 * n ≡ 0 = omega arith in rw e refl
chunk_at n (suc k) (suc j) xs y h =
    let e : n + j * n ≡ suc j * n = omega arith in
    chunk_at n k j (drop n xs) y (omega arith) ∙ ap (take n) (drop-drop (j * n) n xs ∙ ap (λ (i : ℕ). drop i xs) e)

-- four characters by themselves, and at their place
pub group_taken : (s : List ℕ) (i : ℕ) (g : List ℕ) → g ≡ take 4 (drop i s) → group_at g 0 ≡ group_at s i
group_taken s i g e =
    let f = λ (j : ℕ) (h : j < 4). ap (λ (l : List ℕ). get_or l j 0) e ∙ get_or-take 4 (drop i s) j 0 h ∙ get_or-drop i s j 0 in
    let z : i + 0 ≡ i = omega arith in
    rw (f 0 (omega arith), f 1 (omega arith), f 2 (omega arith), f 3 (omega arith), z)

-- a group of a whole text
pub whole_group : (t : List ℕ) (m k : ℕ) (gs : List (List ℕ)) → gs ≡ first_chunks 4 m t → k < m → group_at (get_or gs k []) 0 ≡ group_at t (k * 4)
whole_group t m k gs e h = group_taken t (k * 4) (get_or gs k []) (ap (λ (g : List (List ℕ)). get_or g k []) e ∙ chunk_at 4 m k t [] h)

-- the groups of a text two by two: the first and the second of a pair, and the one after the pairs
module _ (t : List ℕ) {gs : List (List ℕ)} (e : gs ≡ first_chunks 4 (length t / 4) t) (n : length gs ≡ length t / 4) {ps : List (List (List ℕ))}
    (f : ps ≡ first_chunks 2 (length gs / 2) gs) (m : length ps ≡ length gs / 2) where
  in_pair : (k j : ℕ) → k < length ps → j < 2 → get_or (get_or ps k []) j [] ≡ get_or gs (k * 2 + j) []
  in_pair k j h l =
      ap (λ (p : List (List (List ℕ))). get_or (get_or p k []) j []) f
      ∙ ap (λ (p : List (List ℕ)). get_or p j []) (chunk_at 2 (length gs / 2) k gs [] (omega arith))
      ∙ get_or-take 2 (drop (k * 2) gs) j [] l ∙ get_or-drop (k * 2) gs j []

  pair_group : (k j i : ℕ) → k < length ps → j < 2 → (k * 2 + j) * 4 ≡ i → group_at (get_or (get_or ps k []) j []) 0 ≡ group_at t i
  pair_group k j i h l z = rw (in_pair k j h l, whole_group t (length t / 4) (k * 2 + j) gs e (omega arith), z)

  pub first_group : (k : ℕ) → k < length ps → group_at (get_or (get_or ps k []) 0 []) 0 ≡ group_at t (k * 8)
  first_group k h = pair_group k 0 (k * 8) h (omega arith) (omega arith)

  pub second_group : (k : ℕ) → k < length ps → group_at (get_or (get_or ps k []) 1 []) 0 ≡ group_at t (k * 8 + 4)
  second_group k h = pair_group k 1 (k * 8 + 4) h (omega arith) (omega arith)

  pub last_group : (rs : List (List ℕ)) → rs ≡ drop (length gs / 2 * 2) gs → length ps * 2 < length gs → group_at (get_or rs 0 []) 0 ≡ group_at t (length ps * 8)
  last_group rs r h =
      let g : get_or rs 0 [] ≡ get_or gs (length gs / 2 * 2 + 0) [] = ap (λ (p : List (List ℕ)). get_or p 0 []) r ∙ get_or-drop (length gs / 2 * 2) gs 0 [] in
      let y : length gs / 2 * 2 + 0 ≡ length ps * 2 = omega arith in
      let z : length ps * 2 * 4 ≡ length ps * 8 = omega arith in
      rw (g, y, whole_group t (length t / 4) (length ps * 2) gs e (omega arith), z)
