-- The arguments of an observer's call in the model's terms, and what is asked about its buffers.
-- Assumes nothing.
use Rattle.std.specs.Prelude.{ℕ, List, [], ◌∷◌, ◌++◌}
use Rattle.model.specs.Setup as setups
use Rattle.model.specs.Batch.{exact_batch}
use Rattle.model.specs.Question.{Question, ask}
use Rattle.model.specs.Tick.{delivery_roomy, holdback_questions}
use Rattle.model.specs.Observer.{Listening}
use Rattle.setup.specs.Views.{setup_of}
use Rattle.setup.specs.declared.limits.Setup.{Setup}

abbrev pub listen_input : Setup → ℕ → ℕ → List ℕ → List ℕ → List ℕ → List ℕ → Listening
listen_input setup clock last holdback batch verdicts delivery =
    record {
      setup = setup_of setup;
      clock = clock;
      last = last;
      holdback = holdback;
      batch = batch;
      verdicts = verdicts;
      delivery = delivery;
    }

-- 2, 3, 5, and 6 without the outgoing buffer, by the setup that gives the sizes
unfoldable pub sized_listening : setups.Setup → Listening → List Question
sized_listening s i =
    holdback_questions s i.clock i.holdback ++ (ask (exact_batch i.batch) 5 ∷ ask (delivery_roomy s i.verdicts i.delivery) 6 ∷ [])
