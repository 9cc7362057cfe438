-- `words::line::put_or_dash` meets its contract. Assumes nothing.
use mathlib.Core.Path.{sym, ap}
use mathlib.Core.List.{List, ◌++◌}
use Prim.Native.Nat.{ℕ}
use Rattle.text.proofs.Putting.{put_as, room_as}
use Rattle.text.specs.Text.{space, field}
use Rattle.words.specs.Words.{or_dash}
use Rattle.words.proofs.Writing.{no-dash}
use Rattle.words.proofs.line.put_or_dash.Goals as goal

pub put_word-requires : goal.put_word-requires
unfolding or_dash
put_word-requires c = room_as c.args.buf.now c.args.at (ap (λ (k : ℕ). space ++ or_dash k c.args.x) (sym c.if-number-eq-BAD_FORM.true)) c.requires

pub returns-then-number-eq-BAD_FORM : goal.returns-then-number-eq-BAD_FORM
unfolding or_dash
returns-then-number-eq-BAD_FORM c = put_as (ap (λ (k : ℕ). space ++ or_dash k c.args.x) (sym c.if-number-eq-BAD_FORM.true)) c.put_word.ensures

pub put_field-requires : goal.put_field-requires
unfolding field
put_field-requires c = room_as c.args.buf.now c.args.at (ap (λ (l : List ℕ). space ++ l) (no-dash c.args.number c.args.x c.if-number-eq-BAD_FORM.false)) c.requires

pub returns : goal.returns
unfolding field
returns c = put_as (ap (λ (l : List ℕ). space ++ l) (no-dash c.args.number c.args.x c.if-number-eq-BAD_FORM.false)) c.put_field.ensures
