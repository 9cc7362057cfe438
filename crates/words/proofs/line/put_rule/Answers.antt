-- `words::line::put_rule` meets its contract. Assumes nothing.
use mathlib.Core.Path.{sym, ap}
use mathlib.Core.List.{List, ◌++◌}
use Prim.Native.Nat.{ℕ}
use Rattle.text.proofs.Putting.{put_as, room_as}
use Rattle.text.specs.Text.{space}
use Rattle.words.specs.Words.{rule_word}
use Rattle.words.proofs.Writing.{repeat-word}
use Rattle.words.proofs.line.put_rule.Goals as goal

pub put_word-requires : goal.put_word-requires
unfolding rule_word
put_word-requires c = room_as c.args.buf.now c.args.at (ap (λ (k : ℕ). space ++ rule_word k) (sym c.if-number-eq-BAD_FORM.true)) c.requires

pub returns-then-number-eq-BAD_FORM : goal.returns-then-number-eq-BAD_FORM
unfolding rule_word
returns-then-number-eq-BAD_FORM c = put_as (ap (λ (k : ℕ). space ++ rule_word k) (sym c.if-number-eq-BAD_FORM.true)) c.put_word.ensures

pub put_word-requires-then-number-eq-BAD_RANGE : goal.put_word-requires-then-number-eq-BAD_RANGE
unfolding rule_word
put_word-requires-then-number-eq-BAD_RANGE c = room_as c.args.buf.now c.args.at (ap (λ (k : ℕ). space ++ rule_word k) (sym c.if-number-eq-BAD_RANGE.true)) c.requires

pub returns-then-number-eq-BAD_RANGE : goal.returns-then-number-eq-BAD_RANGE
unfolding rule_word
returns-then-number-eq-BAD_RANGE c = put_as (ap (λ (k : ℕ). space ++ rule_word k) (sym c.if-number-eq-BAD_RANGE.true)) c.put_word-then-number-eq-BAD_RANGE.ensures

pub put_word-requires-then-number-eq-BAD_STAMP : goal.put_word-requires-then-number-eq-BAD_STAMP
unfolding rule_word
put_word-requires-then-number-eq-BAD_STAMP c = room_as c.args.buf.now c.args.at (ap (λ (k : ℕ). space ++ rule_word k) (sym c.if-number-eq-BAD_STAMP.true)) c.requires

pub returns-then-number-eq-BAD_STAMP : goal.returns-then-number-eq-BAD_STAMP
unfolding rule_word
returns-then-number-eq-BAD_STAMP c = put_as (ap (λ (k : ℕ). space ++ rule_word k) (sym c.if-number-eq-BAD_STAMP.true)) c.put_word-then-number-eq-BAD_STAMP.ensures

pub put_word-requires-then-number-eq-LATE : goal.put_word-requires-then-number-eq-LATE
unfolding rule_word
put_word-requires-then-number-eq-LATE c = room_as c.args.buf.now c.args.at (ap (λ (k : ℕ). space ++ rule_word k) (sym c.if-number-eq-LATE.true)) c.requires

pub returns-then-number-eq-LATE : goal.returns-then-number-eq-LATE
unfolding rule_word
returns-then-number-eq-LATE c = put_as (ap (λ (k : ℕ). space ++ rule_word k) (sym c.if-number-eq-LATE.true)) c.put_word-then-number-eq-LATE.ensures

pub put_word-requires-then-number-eq-EARLY : goal.put_word-requires-then-number-eq-EARLY
unfolding rule_word
put_word-requires-then-number-eq-EARLY c = room_as c.args.buf.now c.args.at (ap (λ (k : ℕ). space ++ rule_word k) (sym c.if-number-eq-EARLY.true)) c.requires

pub returns-then-number-eq-EARLY : goal.returns-then-number-eq-EARLY
unfolding rule_word
returns-then-number-eq-EARLY c = put_as (ap (λ (k : ℕ). space ++ rule_word k) (sym c.if-number-eq-EARLY.true)) c.put_word-then-number-eq-EARLY.ensures

pub put_word-requires-then-number-eq-BAD_COUNT : goal.put_word-requires-then-number-eq-BAD_COUNT
unfolding rule_word
put_word-requires-then-number-eq-BAD_COUNT c = room_as c.args.buf.now c.args.at (ap (λ (k : ℕ). space ++ rule_word k) (sym c.if-number-eq-BAD_COUNT.true)) c.requires

pub returns-then-number-eq-BAD_COUNT : goal.returns-then-number-eq-BAD_COUNT
unfolding rule_word
returns-then-number-eq-BAD_COUNT c = put_as (ap (λ (k : ℕ). space ++ rule_word k) (sym c.if-number-eq-BAD_COUNT.true)) c.put_word-then-number-eq-BAD_COUNT.ensures

pub put_word-requires-2 : goal.put_word-requires-2
put_word-requires-2 c = room_as c.args.buf.now c.args.at (ap (λ (l : List ℕ). space ++ l) (repeat-word c.args.number c.if-number-eq-BAD_FORM.false c.if-number-eq-BAD_RANGE.false c.if-number-eq-BAD_STAMP.false c.if-number-eq-LATE.false c.if-number-eq-EARLY.false c.if-number-eq-BAD_COUNT.false)) c.requires

pub returns : goal.returns
returns c = put_as (ap (λ (l : List ℕ). space ++ l) (repeat-word c.args.number c.if-number-eq-BAD_FORM.false c.if-number-eq-BAD_RANGE.false c.if-number-eq-BAD_STAMP.false c.if-number-eq-LATE.false c.if-number-eq-EARLY.false c.if-number-eq-BAD_COUNT.false)) c.put_word-2.ensures
