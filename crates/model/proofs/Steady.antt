-- 02, 2.10, where nothing changes: by a steady schedule everything is what it is with one pair, and it computes to that. So does a widening
-- between equal pairs, wherever V stands; and the calls with equal pairs are the plain ones.
-- Assumes nothing.
use Prim.Native.Nat.{ℕ}
use mathlib.Core.Path.{◌≡◌, refl, ap}
use Rattle.model.proofs.ComputingWider.{computing_wider}
use Rattle.model.specs.Setup.{Setup}
use Rattle.model.specs.Timestamp.{Timestamp, sound_timestamp, absorb}
use Rattle.model.specs.Frame.{well_formed, decode}
use Rattle.model.specs.Order.{counts_down, key, before, due_near}
use Rattle.model.specs.Question.{frame_questions}
use Rattle.model.specs.Holdback.{held_bytes, held, sound_holdback}
use Rattle.model.specs.Judge.{judge_questions, observer_questions, judge, hear, absorb_all}
use Rattle.model.specs.Tick.{Input, tables_sound, opening_stamp, opening_queue, acceptance}
use Rattle.model.specs.Observer.{Listening, Listened, listened}
use Rattle.model.specs.Poll.{polled_queue, next_due, number_within}
use Rattle.model.specs.Comparison.{compared}
use Rattle.model.specs.Schedule.{steady, widest_of, own_limits}
use Rattle.model.specs.Wider.{wider_formed, wider_decode, sound_within, wider_frame_questions, counts_down_by, wider_key, wider_before, wider_due, wider_held_bytes, wider_held, wider_sound_holdback, wider_opening_queue, wider_questions, wider_observer_questions, wider_judge, wider_hear, absorb_wide, wider_absorb_all, wider_tables_sound, wider_opening_stamp, wider_acceptance}
use Rattle.model.specs.WiderCalls.{wider_listened, wider_polled_queue, wider_next_due, wider_number_within, wider_compared}

-- the stamp's own definitions, with one width for both
pub sound-one : (n epsilon : ℕ) (t : Timestamp) → sound_within n epsilon epsilon t ≡ sound_timestamp n epsilon t
unfolding sound_within sound_timestamp
sound-one n epsilon t = refl

pub down-one : (epsilon : ℕ) (t : Timestamp) → counts_down_by epsilon epsilon t ≡ counts_down epsilon t
unfolding counts_down_by counts_down
down-one epsilon t = refl

pub absorb-one : (epsilon modulus : ℕ) (t : Timestamp) (reading : ℕ) (f : Timestamp) → absorb_wide epsilon epsilon modulus t reading f ≡ absorb epsilon modulus t reading f
unfolding absorb_wide absorb
absorb-one epsilon modulus t reading f = refl

-- by a steady schedule
module _ (s : Setup) where
  pub own-steady : own_limits (steady s) ≡ s
  own-steady = refl

  pub widest-steady : widest_of (steady s) ≡ s
  widest-steady = refl

  pub form-steady : wider_formed (steady s) ≡ well_formed s.epsilon
  unfolding computing_wider
  form-steady = refl

  pub decode-steady : wider_decode (steady s) ≡ decode s.epsilon
  unfolding computing_wider
  decode-steady = refl

  pub questions-steady : wider_frame_questions (steady s) ≡ frame_questions s
  unfolding computing_wider
  questions-steady = refl

  pub key-steady : wider_key (steady s) ≡ key s
  unfolding computing_wider
  key-steady = refl

  pub before-steady : wider_before (steady s) ≡ before s
  unfolding computing_wider
  before-steady = refl

  pub due-steady : wider_due (steady s) ≡ due_near s
  unfolding computing_wider
  due-steady = refl

  pub held-bytes-steady : wider_held_bytes (steady s) ≡ held_bytes s.epsilon
  unfolding computing_wider
  held-bytes-steady = refl

  pub held-steady : wider_held (steady s) ≡ held s.epsilon
  unfolding computing_wider
  held-steady = refl

  pub holdback-steady : wider_sound_holdback (steady s) ≡ sound_holdback s
  unfolding computing_wider
  holdback-steady = refl

  pub opening-steady : wider_opening_queue (steady s) ≡ opening_queue s
  unfolding computing_wider
  opening-steady = refl

  pub judged-steady : wider_questions (steady s) ≡ judge_questions s
  unfolding computing_wider
  judged-steady = refl

  pub observed-steady : wider_observer_questions (steady s) ≡ observer_questions s
  unfolding computing_wider
  observed-steady = refl

  pub judge-steady : wider_judge (steady s) ≡ judge s
  unfolding computing_wider
  judge-steady = refl

  pub hear-steady : wider_hear (steady s) ≡ hear s
  unfolding computing_wider
  hear-steady = refl

  pub absorb-steady : wider_absorb_all (steady s) ≡ absorb_all s
  unfolding computing_wider
  absorb-steady = refl

  pub tables-steady : wider_tables_sound (steady s) ≡ tables_sound s
  unfolding computing_wider
  tables-steady = refl

  pub stamp-steady : wider_opening_stamp (steady s) ≡ opening_stamp s
  unfolding computing_wider
  stamp-steady = refl

  pub compared-steady : wider_compared (steady s) ≡ compared s
  unfolding computing_wider
  compared-steady = refl

  pub polled-steady : wider_polled_queue (steady s) ≡ polled_queue s
  unfolding computing_wider
  polled-steady = refl

  pub next-steady : wider_next_due (steady s) ≡ next_due s
  unfolding computing_wider
  next-steady = refl

  pub within-steady : wider_number_within (steady s) ≡ number_within s
  unfolding computing_wider
  within-steady = refl

-- an accepted tick
pub tick-steady : (i : Input) → wider_acceptance (steady i.setup) i ≡ acceptance i
unfolding computing_wider
tick-steady i = refl

-- an accepted call of an observer; its last clock by itself, since two that differ there alone are told apart only after minutes
pub last-steady : (i : Listening) → (wider_listened (steady i.setup) i).last ≡ (listened i).last
unfolding wider_listened listened
last-steady i = refl

abbrev with_last : Listened → ℕ → Listened
with_last o clock =
    record {
      number = o.number;
      repair = o.repair;
      taken = o.taken;
      delivered = o.delivered;
      last = clock;
      holdback = o.holdback;
      verdicts = o.verdicts;
      delivery = o.delivery;
    }

pub listen-steady : (i : Listening) → wider_listened (steady i.setup) i ≡ listened i
unfolding computing_wider
listen-steady i = ap (with_last (listened i)) (last-steady i)
