-- `directory::braced::dollar_string` meets its contract. Assumes nothing.
use Rattle.std.proofs.Common.{◌≡◌, ℕ, ◌≤◌, List, Result, ap, length, take, arith}
use lib.ListN.{length-take}
use Rattle.refusals.specs.declared.Refusal.{Refusal}
use Rattle.text.specs.Place.{chars_answered, put}
use Rattle.text.specs.declared.units.Chars.{Chars}
use Rattle.text.proofs.Over.{put_whole}
use Rattle.directory.proofs.Prefixes.{braced_length}
use Rattle.directory.proofs.ReaderLaws.{held}
use Rattle.directory.proofs.braced.dollar_string.Goals as goal

-- the text, put into as many bytes at the front of the array
copied : (t out left : List ℕ) (w : Result Chars Refusal) → length t ≤ length out → chars_answered w left ≡ put (take (length t) out) 0 t → left ≡ t
copied t out left w h e = put_whole (take (length t) out) t left w (omega (arith, h, length-take (length t) out)) e

pub mark-requires : goal.mark-requires
mark-requires c =
    let l = braced_length c.args.t.now c.requires.0 in
    omega (arith, ap length (copied _ _ _ _ c.requires.1 c.write_text.ensures), l)

pub returns : goal.returns
returns c = held c.args.t.now c.write_text.new.buf c.mark.new.s c.requires.0 (copied _ _ _ _ c.requires.1 c.write_text.ensures) c.mark.ensures
