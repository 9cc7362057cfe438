-- Fresh stations: each station is its process.
-- Assumes nothing.
use Prim.Native.Nat.{ℕ}
use native.Mathlib.Omega.{arith}
use mathlib.Core.Path.{◌≡◌, refl, sym, subst, ◌∙◌}
use mathlib.Core.Bool.{true, false}
use mathlib.Core.List.Memᴰ
use mathlib.Core.List.{List, [], Memᴰ}
use mathlib.Core.Option.{Option, some}
use lib.ListN.{get_elem?}
use Rattle.laws.specs.Lists.{apart}
use Rattle.laws.proofs.Lists.{get_elem?-lt, get_elem?-map}
use Rattle.model.specs.Setup.{Setup}
use Rattle.model.specs.Frame.{Frame}
use Rattle.model.specs.Published.{initial, started}
use Rattle.model.specs.Run.{Node, at_start}
use Rattle.theory.specs.Premises.{good_start, all_fresh}
use Rattle.theory.specs.Demand2.{published_start}
use Rattle.model.specs.Holdback.{cut_frames, cut_by, held_bytes, held}
use Rattle.theory.proofs.Fresh.{FreshNode, fresh_at, fresh-plain}
use Rattle.theory.proofs.PublishedEvent.{initial-stamp, initial-wide}
use Rattle.theory.proofs.PublishedRun.{Twin, Paired}

module _ (s : Setup) (nodes : List Node) (start : good_start s nodes ≡ true) (all-fresh : all_fresh s nodes ≡ true) where
  nothing : {A : Type 0} (k : ℕ) (x : A) → ◌≡◌ {A = Option A} (get_elem? [] k) (some x) → ⊥
  nothing {A} k x e = omega (arith, get_elem?-lt {A = A} [] k e)

  queue-empty : (node : Node) → FreshNode s node → held s.epsilon node.holdback ≡ []
  unfolding held held_bytes cut_frames cut_by
  queue-empty node is-fresh = rw is-fresh.empty refl

  twin-fresh : (i : ℕ) (node : Node) → get_elem? nodes i ≡ some node → node.listens ≡ false → Twin s [] [] i node (started s.epsilon node.own node.clock)
  unfolding started initial apart
  twin-fresh i node at station =
      let is-fresh = fresh_at s nodes start all-fresh i node at in
      record {
        number = refl;
        clock-is = refl;
        wide = initial-wide s.epsilon node.clock;
        stamp = is-fresh.tables station ∙ sym (initial-stamp s.epsilon s.modulus node.clock);
        queue =
            record {
              into = λ f m. absurd (Memᴰ.not-nil (subst (λ (l : List Frame). Memᴰ f l) (queue-empty node is-fresh) m));
              back = λ m t. absurd (Memᴰ.not-nil t);
            };
        single = refl;
        waiting = λ m t. absurd (Memᴰ.not-nil t);
        undue = λ m t. absurd (Memᴰ.not-nil t);
        from-received = λ m t. absurd (Memᴰ.not-nil t);
        received = record { into = λ m t. absurd (Memᴰ.not-nil t); back = λ k m e. absurd (nothing k (some m) e) };
        knows = λ k m d e. absurd (nothing k (some m) e);
      }

  pub paired-fresh : Paired s (at_start nodes) (published_start s nodes)
  unfolding at_start published_start
  paired-fresh =
      record {
        good = fresh-plain s nodes start all-fresh;
        sent-as =
            record {
              same_length = refl;
              each = λ k d e. absurd (nothing k d e);
              only = λ k m e. absurd (nothing k (some m) e);
            };
        ranked = λ k l m m' d d' h e. absurd (nothing k (some m) e);
        twins = λ i node at station. (
          started s.epsilon node.own node.clock,
          get_elem?-map (λ (x : Node). started s.epsilon x.own x.clock) nodes i at,
          twin-fresh i node at station,
        );
      }
