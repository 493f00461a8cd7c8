-- What the walk takes stands there: each text that is found is the one that the writer puts for it, and the rest stands behind it.
-- Assumes nothing.
use Rattle.std.proofs.Common.{◌≡◌, ℕ, suc, true, not, ◌&&◌, leb, List, [], ◌∷◌, ◌++◌, length, drop, sym, refl, ap, ◌∙◌, arith, eq-eqb}
use mathlib.Core.Bool.{false≢true}
use mathlib.Core.Option.{Option, some}
use Rattle.text.specs.Text.{text, within, all, empty, is_byte, run, starts_with, and_then}
use Rattle.text.proofs.Tests.{both, is_false, to_within}
use Rattle.text.proofs.Runs.{run_is}
use Rattle.text.proofs.Starts.{starts_behind}
use Rattle.text.proofs.Options.{Holds, holds_then, holds_if}
use Rattle.b64.specs.B64.{in_alphabet, canonical, decode, encode}
use Rattle.b64.proofs.B64Laws.{encode_decode, bytes_decode}
use Rattle.decimal.specs.Decimal.{is_digit, is_unsigned, value, digits}
use Rattle.decimal.proofs.DecimalLaws.{digits_value}
use Rattle.table.specs.Limits.{in_range, is_size, version_allowed, largest32, is_omitted}
use Rattle.table.specs.declared.limits.NumberRule.{NumberRule}
use Rattle.table.specs.declared.limits.NumberRule.TheVariants.{Required, Defaulted, Constant}
use Rattle.table.specs.declared.limits.BytesRule.{BytesRule}
use Rattle.table.specs.declared.version.Version.{Version}
use Rattle.table.specs.declared.version.Version.TheVariants.{Number}
use Rattle.profile.specs.Fields.{write_number, write_bytes, write_version}
use Rattle.profile.specs.Sound.{sound_number}
use Rattle.profile.specs.Writer.{bytes_allowed}
use Rattle.profile.specs.PieceTexts.{tagged}
use Rattle.fast_path.specs.Walk.{Taken, leading_number, written_number, omitted_number, number_in, bytes_in, allowed, version_in}
use Rattle.fast_path.proofs.ItemTexts.{Stands}

-- ---- one number

numeral_stands : (t : List ℕ) → Holds (λ (x : ℕ × List ℕ). t ≡ digits x.0 ++ x.1) (leading_number t)
unfolding leading_number
numeral_stands t =
    let d = run is_digit t in
    holds_if _ (is_unsigned d && leb (value d) largest32) _ _
    (λ h. run_is is_digit t ∙ ap (λ (l : List ℕ). l ++ drop (length d) t) (sym (digits_value d (both (is_unsigned d) (leb (value d) largest32) h).0)))
    (λ h. tt)

written_optional : (r : NumberRule) (n : ℕ) → not (is_omitted r n) ≡ true → write_number r n ≡ some (digits n)
written_optional r n e = rw (is_false (is_omitted r n) e)

abbrev pub NumberStands : NumberRule → List ℕ → ℕ → List ℕ → Taken ℕ → Type 0
NumberStands r name separator t x = (in_range r x.found ≡ true) × Stands separator ((name, write_number r x.found) ∷ []) t x.separator x.rest

left_stands : (r : NumberRule) → sound_number r ≡ true → (name : List ℕ) (separator : ℕ) (t : List ℕ) → Holds (NumberStands r name separator t) (omitted_number r separator t)
left_stands (Required low high) k name separator t = tt
left_stands (Defaulted low high default) k name separator t =
    let e = eq-eqb default default refl in
    ((both (leb high largest32) (within low high default) k).1, record { here = rw e; after = rw e })
left_stands (Constant value) k name separator t = (to_within value value value (omega arith) (omega arith), record { here = refl; after = refl })

number_stands : (r : NumberRule) → sound_number r ≡ true → (name : List ℕ) (separator : ℕ) (t : List ℕ) → Holds (NumberStands r name separator t) (number_in r name separator t)
unfolding number_in
number_stands r k name separator t =
    let u = drop (suc (length name)) t in
    holds_if _ (starts_with (separator ∷ name) t) _ _
    (λ s. holds_then (λ (y : ℕ × List ℕ). u ≡ digits y.0 ++ y.1) _ (leading_number u) (written_number r) (numeral_stands u) (λ y h.
    holds_if _ (in_range r y.0 && not (is_omitted r y.0)) _ _
    (λ e. let q = both (in_range r y.0) (not (is_omitted r y.0)) e in
    let w = written_optional r y.0 q.1 in
    (q.0, record { here = rw w (starts_behind (separator ∷ name) t (digits y.0) y.1 s h); after = rw w }))
    (λ e. tt)))
    (λ s. left_stands r k name separator t)

pub number_then : {B : Type 0} (Q : B → Type 0) (r : NumberRule) → sound_number r ≡ true → (name : List ℕ) (separator : ℕ) (t : List ℕ) (f : Taken ℕ → Option B)
    → ((x : Taken ℕ) → NumberStands r name separator t x → Holds Q (f x)) → Holds Q (and_then (number_in r name separator t) f)
number_then Q r k name separator t f h = holds_then (NumberStands r name separator t) Q (number_in r name separator t) f (number_stands r k name separator t) h

-- ---- one byte string

pub record BytesStand (r : BytesRule) (name : List ℕ) (separator : ℕ) (t : List ℕ) (x : Taken (List ℕ)) : Type 0 where
  pub permitted : bytes_allowed r x.found ≡ true
  pub bytes : all is_byte x.found ≡ true
  pub stands : Stands separator ((name, write_bytes x.found) ∷ []) t x.separator x.rest
  -- there are none where the separator and the name don't stand there
  pub nothing : empty x.found ≡ not (starts_with (separator ∷ name) t)

filled_optional : (bs : List ℕ) → not (empty bs) ≡ true → write_bytes bs ≡ some (encode bs)
filled_optional [] e = absurd (false≢true e)
filled_optional (b ∷ bs) e = refl

bytes_stand : (r : BytesRule) (name : List ℕ) (separator : ℕ) (t : List ℕ) → Holds (BytesStand r name separator t) (bytes_in r name separator t)
unfolding bytes_in
bytes_stand r name separator t =
    let v = drop (suc (length name)) t in
    let u = run in_alphabet v in
    let bs = decode u in
    holds_if _ (starts_with (separator ∷ name) t) _ _
    (λ s. holds_if _ (canonical u && (not (empty bs) && is_size r (length bs))) _ _
    (λ e. let p = both (canonical u) (not (empty bs) && is_size r (length bs)) e in
    let q = both (not (empty bs)) (is_size r (length bs)) p.1 in
    let w = filled_optional bs q.0 in
    let n = is_false (empty bs) q.0 in
    let h : v ≡ encode bs ++ drop (length u) v = rw (encode_decode u p.0) (run_is in_alphabet v) in
    record {
      permitted = rw (n, q.1);
      bytes = bytes_decode u p.0;
      stands = record { here = rw w (starts_behind (separator ∷ name) t (encode bs) (drop (length u) v) s h); after = rw w };
      nothing = rw (n, s);
    })
    (λ e. tt))
    (λ s. record { permitted = refl; bytes = refl; stands = record { here = refl; after = refl }; nothing = rw s })

pub bytes_then : {B : Type 0} (Q : B → Type 0) (r : BytesRule) (name : List ℕ) (separator : ℕ) (t : List ℕ) (f : Taken (List ℕ) → Option B)
    → ((x : Taken (List ℕ)) → BytesStand r name separator t x → Holds Q (f x)) → Holds Q (and_then (bytes_in r name separator t) f)
bytes_then Q r name separator t f h = holds_then (BytesStand r name separator t) Q (bytes_in r name separator t) f (bytes_stand r name separator t) h

-- ---- the version

abbrev pub VersionStands : List ℕ → List ℕ → Taken Version → Type 0
VersionStands vs t x = (version_allowed vs x.found ≡ true) × (t ≡ tagged (text "$") (write_version x.found) ++ x.rest)

pub version_stands : (vs t : List ℕ) → Holds (VersionStands vs t) (version_in vs t)
unfolding version_in
version_stands vs t =
    let u = drop 3 t in
    holds_if _ (starts_with (text "$v=") t) _ _
    (λ s. holds_then (λ (y : ℕ × List ℕ). u ≡ digits y.0 ++ y.1) _ (leading_number u) (λ (y : ℕ × List ℕ). allowed vs (Number y.0) y.1) (numeral_stands u) (λ y h.
    holds_if _ (version_allowed vs (Number y.0)) _ _ (λ e. (e, starts_behind (text "$v=") t (digits y.0) y.1 s h)) (λ e. tt)))
    (λ s. (refl, refl))
