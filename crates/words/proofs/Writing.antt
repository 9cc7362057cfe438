-- The parts of a line as the code writes them, and the loop over the entries, turn by turn. Assumes nothing.
use Prim.Native.Nat.{ℕ, ◌+◌, ◌*◌, ◌≤◌, ◌<◌}
use mathlib.Core.Path.{◌≡◌, refl, sym, ap, ◌∙◌}
use mathlib.Core.Bool.{true}
use mathlib.Core.List.{List, [], ◌∷◌, ◌++◌, map, append-nil}
use native.Mathlib.Nat.{zero-add}
use native.Mathlib.Numerals.{add-one}
use native.Mathlib.Omega.{arith}
use lib.ListN.{length, drop, get_or}
use borrow.Author.Tests.{ne_eqb}
use Rattle.laws.specs.Lists.{tab, joined, overlay}
use Rattle.laws.proofs.Lists.{joined-append, tab-suc}
use Rattle.model.specs.Setup.{Setup}
use Rattle.model.specs.Frame.{Frame, decode, two_at}
use Rattle.model.specs.Batch.{batch_entries}
use Rattle.splice.specs.Bytes.{pasted}
use Rattle.model.specs.Verdicts.{given}
use Rattle.batch.specs.Walk.{count_of, entry_at, next_at}
use Rattle.batch.proofs.Walk.{batch-count}
use Rattle.verdicts.proofs.Walking.{Walking, walking_start, walking-entry, walking-turn, verdict-given}
use Rattle.text.specs.Text.{Put, decimal, space}
use Rattle.text.proofs.Putting.{put-nothing, put_then, put_as, put-length}
use Rattle.words.specs.Words.{repeat_word, rule_word, word_of, rule_limits_of, or_dash, parts_of, spaced, line_of, line_at, word_lines, text_of, longest_line}
use Rattle.words.specs.Answers.{Answered}

-- ---- the parts

-- the word of the last rule, where it is none of the others
pub repeat-word : (number : ℕ) → (number ≡ 10 → ⊥) → (number ≡ 11 → ⊥) → (number ≡ 12 → ⊥) → (number ≡ 13 → ⊥) → (number ≡ 14 → ⊥) → (number ≡ 15 → ⊥)
    → repeat_word ≡ rule_word number
unfolding rule_word
repeat-word number a b c d e f =
    rw (ne_eqb number 10 a, ne_eqb number 11 b, ne_eqb number 12 c, ne_eqb number 13 d, ne_eqb number 14 e, ne_eqb number 15 f)

pub rule-word : (number : ℕ) → (number ≡ 0 → ⊥) → rule_word number ≡ word_of number
unfolding word_of
rule-word number h = rw (ne_eqb number 0 h)

pub no-dash : (number x : ℕ) → (number ≡ 10 → ⊥) → decimal x ≡ or_dash number x
unfolding or_dash
no-dash number x h = rw (ne_eqb number 10 h)

pub no-limits : (s : Setup) (number : ℕ) → (number ≡ 11 → ⊥) → (number ≡ 12 → ⊥) → (number ≡ 13 → ⊥) → (number ≡ 14 → ⊥) → (number ≡ 15 → ⊥)
    → [] ≡ rule_limits_of s number
unfolding rule_limits_of
no-limits s number b c d e f =
    rw (ne_eqb number 11 b, ne_eqb number 12 c, ne_eqb number 13 d, ne_eqb number 14 e, ne_eqb number 15 f)

-- a line of the parts that were written
pub line_made :
    (s : Setup) (position number : ℕ) (f : Frame) (station r : ℕ) (limits : List ℕ) → station ≡ f.station → r ≡ f.stamp.r → limits ≡ rule_limits_of s number
    → line_of s position number f
    ≡ decimal position ++ ((space ++ or_dash number station) ++ ((space ++ or_dash number r) ++ ((space ++ word_of number) ++ spaced (map decimal limits))))
unfolding line_of parts_of spaced
line_made s position number f station r limits p q e = rw (p, q, e)

-- r of any bytes is a number of two
pub r-most : (epsilon : ℕ) (s : List ℕ) → get_or s 2 0 < 256 → get_or s 3 0 < 256 → (decode epsilon s).stamp.r < 65536
unfolding decode two_at
r-most epsilon s h k = omega arith

-- ---- the loop: the lines of the first entries are written, and the walk goes on at the others

module _ (s : Setup) (batch verdicts text : List ℕ) where
  -- the lines of the first entries
  pub lines_up_to : ℕ → List ℕ
  lines_up_to position = joined (λ line. line) (tab position (line_at s (batch_entries batch) verdicts))

  pub record Lining (position at end : ℕ) (cur : List ℕ) : Type 0 where
    pub walk : Walking batch position at
    pub so_far : Put text 0 (lines_up_to position) cur end
    pub as_long : length cur ≡ length text
    pub near : end ≤ longest_line * position

  pub lining-start : Answered s batch verdicts text → Lining 0 1 0 text
  unfolding lines_up_to tab joined
  lining-start ok =
      record {
        walk = walking_start ok.fit.exact;
        so_far = put-nothing text 0;
        as_long = refl;
        near = omega arith;
      }

  module _ (ok : Answered s batch verdicts text) {position at end : ℕ} {cur : List ℕ} (here : Lining position at end cur) where
    -- at one more entry
    module _ (more : position < count_of batch) where
      -- its line, of the bytes where the walk is
      pub lining-line : (bytes : List ℕ) → bytes ≡ entry_at batch at
          → line_of s position (get_or verdicts position 0) (decode s.epsilon bytes) ≡ line_at s (batch_entries batch) verdicts position
      unfolding line_at
      lining-line bytes e =
          ap (λ (l : List ℕ). line_of s position (get_or verdicts position 0) (decode s.epsilon l))
          (e ∙ walking-entry here.walk more)

      -- a judgement gave its verdict
      pub lining-given : given (get_or verdicts position 0) ≡ true
      lining-given = verdict-given ok.fit position more

      -- there is room for it
      pub lining-room : end + longest_line ≤ length cur
      lining-room = omega (arith, ok.room, batch-count batch ok.fit.exact, here.as_long, here.near)

      pub lining-turn : {next : List ℕ} {at' end' : ℕ} (line : List ℕ) → line ≡ line_at s (batch_entries batch) verdicts position
          → at' ≡ next_at batch at → Put cur end line next end' → end' ≤ end + longest_line → Lining (position + 1) at' end' next
      unfolding lines_up_to joined
      lining-turn {next} {at'} {end'} line e step put short =
          let lines : lines_up_to position ++ line ≡ lines_up_to (position + 1)
          = rw (e, add-one position, tab-suc position (line_at s (batch_entries batch) verdicts))
          (sym (joined-append (λ l. l) (tab position (line_at s (batch_entries batch) verdicts)) (line_at s (batch_entries batch) verdicts position ∷ [])
          ∙ ap (λ (l : List ℕ). lines_up_to position ++ l) (append-nil (line_at s (batch_entries batch) verdicts position)))) in
          record {
            walk = walking-turn here.walk more step;
            so_far = put_as lines (put_then (omega arith) here.so_far put);
            as_long = put-length (omega (arith, lining-room, put.ends)) put ∙ here.as_long;
            near = omega (arith, here.near);
          }

  pub lining-end : {position at end : ℕ} {cur : List ℕ} → Answered s batch verdicts text → Lining position at end cur → count_of batch ≤ position
      → Put text 0 (text_of s (batch_entries batch) verdicts) cur end
  unfolding lines_up_to text_of word_lines
  lining-end {position} ok here done =
      let all : position ≡ length (batch_entries batch) = omega (arith, here.walk.counted, batch-count batch ok.fit.exact) in
      put_as (ap lines_up_to all) here.so_far

-- at the front of a buffer
pub put_front : {l m : List ℕ} {a : List ℕ} {end : ℕ} → Put l 0 a m end → m ≡ overlay a l
unfolding overlay pasted
put_front {l} {m} {a} p = p.bytes ∙ ap (λ (k : ℕ). a ++ drop k l) (zero-add (length a))

pub put-size : {l m : List ℕ} {a : List ℕ} {end : ℕ} → Put l 0 a m end → end ≡ length a
put-size {l} {m} {a} p = p.ends ∙ zero-add (length a)
