-- `b64::decoder::decode` meets its contract. Assumes nothing.
use Rattle.std.proofs.Common.{ℕ, ◌≡◌, sym, ◌∙◌, ap, List, length, Bool, cond, true, arith}
use Rattle.text.specs.Place.{has_room}
use Rattle.text.proofs.Writing.{put_clear, put_refused}
use Rattle.text.proofs.Writers.{Asked, writer_full, writer_room, writer_done}
use Rattle.b64.specs.B64.{canonical, decode, decode_number}
use Rattle.b64.specs.Lengths.{bytes_of}
use Rattle.b64.proofs.B64Laws.{length_decode}
use Rattle.b64.proofs.decoder.decode.Goals as goal

asked : (t buffer : List ℕ) (at n : ℕ) (b : Bool) → n ≡ bytes_of (length t) → b ≡ has_room (length buffer) at n → Asked buffer at (decode t) n b
asked t buffer at n b e h = record { counted = e ∙ sym (length_decode t); answered = h }

clear : (t : List ℕ) (b : Bool) → b ≡ canonical t → b ≡ true → decode_number t ≡ 0
clear t b e h = ap (λ (b : Bool). cond b 0 12) (sym e ∙ h)

pub decode_all-requires-clause-text_in_bounds : goal.decode_all-requires-clause-text_in_bounds
decode_all-requires-clause-text_in_bounds c =
    let a = c.args in
    writer_room (asked a.text.now a.buf.now a.at _ _ c.decoded_len-count.ensures c.has_room.ensures) c.if-not-has_room.false

pub returns-then-not-is_canonical_by : goal.returns-then-not-is_canonical_by
returns-then-not-is_canonical_by c =
    let a = c.args in
    put_refused a.buf.now a.at (decode a.text.now) _ 12
    (ap (λ (b : Bool). cond b 0 12) (sym c.is_canonical_by.ensures ∙ c.if-not-is_canonical_by.true)) (omega arith)

pub returns-then-not-has_room : goal.returns-then-not-has_room
returns-then-not-has_room c =
    let a = c.args in
    writer_full (asked a.text.now a.buf.now a.at _ _ c.decoded_len-count.ensures c.has_room.ensures) c.if-not-has_room.true
    ∙ sym (put_clear a.buf.now a.at (decode a.text.now) _ (clear a.text.now _ c.is_canonical_by.ensures c.if-not-is_canonical_by.false))

pub returns : goal.returns
returns c =
    let a = c.args in
    writer_done (asked a.text.now a.buf.now a.at _ _ c.decoded_len-count.ensures c.has_room.ensures) c.if-not-has_room.false _ c.decode_all.ensures
    ∙ sym (put_clear a.buf.now a.at (decode a.text.now) _ (clear a.text.now _ c.is_canonical_by.ensures c.if-not-is_canonical_by.false))
