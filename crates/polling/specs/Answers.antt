-- The poll's answer in the model's terms. Assumes nothing.
use Rattle.std.specs.Prelude.{ℕ, ◌<◌}
use Rattle.std.proofs.Math.Option.{Option, none, some}
use Rattle.model.specs.Poll.{PollAnswer}
use Rattle.polling.specs.declared.front.Next.{Next}
use Rattle.polling.specs.declared.front.Next.TheVariants.{Nothing, At}
use Rattle.polling.specs.declared.call.Polled.{Polled}

abbrev pub next_of : Next → Option ℕ
next_of Nothing = none
next_of (At clock) = some clock

abbrev pub poll_answer : Polled → PollAnswer
poll_answer a = record { number = a.number; next = next_of a.next; within = a.within }

-- the next clock, if there is one, fits in two bytes
abbrev pub SmallNext : Option ℕ → Type 0
SmallNext none = Unit {0}
SmallNext (some clock) = clock < 65536
