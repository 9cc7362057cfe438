-- `words::line::put_verdict` meets its contract. Assumes nothing.
use mathlib.Core.Path.{sym, ap}
use mathlib.Core.List.{List, ◌++◌}
use Prim.Native.Nat.{ℕ}
use Rattle.text.proofs.Putting.{put_as, room_as}
use Rattle.text.specs.Text.{space}
use Rattle.words.specs.Words.{word_of}
use Rattle.words.proofs.Writing.{rule-word}
use Rattle.words.proofs.line.put_verdict.Goals as goal

pub put_word-requires : goal.put_word-requires
unfolding word_of
put_word-requires c = room_as c.args.buf.now c.args.at (ap (λ (k : ℕ). space ++ word_of k) (sym c.if-number-eq0.true)) c.requires

pub returns-then-number-eq0 : goal.returns-then-number-eq0
unfolding word_of
returns-then-number-eq0 c = put_as (ap (λ (k : ℕ). space ++ word_of k) (sym c.if-number-eq0.true)) c.put_word.ensures

pub put_rule-requires : goal.put_rule-requires
put_rule-requires c = room_as c.args.buf.now c.args.at (ap (λ (l : List ℕ). space ++ l) (rule-word c.args.number c.if-number-eq0.false)) c.requires

pub returns : goal.returns
returns c = put_as (ap (λ (l : List ℕ). space ++ l) (rule-word c.args.number c.if-number-eq0.false)) c.put_rule.ensures
