-- An observer's answer, and the buffers as the call left them, in the model's terms.
-- Assumes nothing.
use Rattle.std.specs.Prelude.{ℕ, List}
use Rattle.model.specs.Observer as observers
use Rattle.observer.specs.declared.listening.Listened.{Listened}

abbrev pub listen_output : Listened → List ℕ → List ℕ → List ℕ → observers.Listened
listen_output a holdback verdicts delivery =
    record {
      number = a.number;
      repair = a.repair;
      taken = a.taken;
      delivered = a.delivered;
      last = a.last;
      holdback = holdback;
      verdicts = verdicts;
      delivery = delivery;
    }
