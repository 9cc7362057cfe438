-- Demand 2 where all steps are one: Equation 4.11's program and the one that delivers at the first event at or past a due clock do the same.
-- Assumes nothing.
use Prim.Native.Nat.{ℕ, zero, suc, ◌≤◌}
use native.Mathlib.Omega.{arith}
use mathlib.Core.Path.{◌≡◌, refl, sym, ap, subst, ◌∙◌}
use mathlib.Core.Logic.{inl, inr}
use mathlib.Core.Bool.{Bool, true, false, ◌||◌, not}
use mathlib.Core.List.{List, [], ◌∷◌, Memᴰ}
use mathlib.Core.Option.{Option, none, some}
use lib.Dec.{eqb}
use lib.ListN.{take, set, get_elem?}
use borrow.Author.Tests.{le-leb, lt-leb, eq-eqb, ne_eqb, eqb-true}
use Rattle.laws.proofs.Numbers.{eq-or-ne, clash, or_cases, false_of_not}
use Rattle.laws.proofs.Lists.{select-ext, every-mem, get_elem?-mem}
use Rattle.model.specs.Setup.{Setup}
use Rattle.model.specs.Published.{Message, Process, deliverable, deliverable_by, in_order, buffered, delivered_at, advanced, message_due}
use Rattle.model.specs.Run.{Call, Done, is_event, run_from, at_start}
use Rattle.theory.specs.Premises.{steps_of_one}
use Rattle.theory.specs.Demand2.{messages_heard, Published, Outcome, outcome_of, publish_on, publish, publish_all, published_start, SameAs, Matched, OneProgram, Demand2Ones}
use Rattle.theory.proofs.Demand2.{NoneExpired, fresh-follow}

-- of a message that is not due before v both conditions say the same
condition-alike : (s : Setup) (v : ℕ) (m : Message) → v ≤ message_due s.epsilon s.delta m → deliverable s.epsilon s.delta v m ≡ deliverable_by s.epsilon s.delta v m
unfolding deliverable deliverable_by
condition-alike s v m h =
    elim (eq-or-ne v (message_due s.epsilon s.delta m)) [
      | inl q ↦ eq-eqb v (message_due s.epsilon s.delta m) q ∙ sym (le-leb (message_due s.epsilon s.delta m) v (omega arith))
      | inr q ↦ ne_eqb v (message_due s.epsilon s.delta m) q ∙ sym (lt-leb (message_due s.epsilon s.delta m) v (omega (arith, q)))
    ]

-- so where a process holds no message that is due before v, it does the same at v by either
module _ (s : Setup) (v : ℕ) (p : Process) (messages : List Message) (undue : (m : Message) → Memᴰ m (buffered p messages) → v ≤ message_due s.epsilon s.delta m) where
  delivered-alike : delivered_at deliverable s.epsilon s.delta v p messages ≡ delivered_at deliverable_by s.epsilon s.delta v p messages
  unfolding delivered_at
  delivered-alike =
      ap (in_order s.epsilon)
      (select-ext (deliverable s.epsilon s.delta v) (deliverable_by s.epsilon s.delta v) (buffered p messages) (λ m t. condition-alike s v m (undue m t)))

  advanced-alike : advanced deliverable s.epsilon s.delta v p messages ≡ advanced deliverable_by s.epsilon s.delta v p messages
  unfolding advanced
  advanced-alike =
      let kept =
      select-ext (λ m. not (deliverable s.epsilon s.delta v m)) (λ m. not (deliverable_by s.epsilon s.delta v m)) (buffered p messages)
      (λ m t. ap not (condition-alike s v m (undue m t))) in
      λ i. record {
        number = p.number;
        last = (advanced deliverable s.epsilon s.delta v p messages).last;
        buffer = kept i;
        received = (advanced deliverable s.epsilon s.delta v p messages).received;
      }

outcome-alike :
    (s : Setup) (sent : List (Option Message)) (p : Process) (v : ℕ) (call : Call)
    → ((m : Message) → Memᴰ m (buffered p (messages_heard sent call.sources)) → v ≤ message_due s.epsilon s.delta m)
    → outcome_of deliverable s sent p v call ≡ outcome_of deliverable_by s sent p v call
unfolding outcome_of
outcome-alike s sent p v call undue =
    let messages = messages_heard sent call.sources in
    let delivered = delivered-alike s v p messages undue in
    let after = advanced-alike s v p messages undue in
    let o = outcome_of deliverable s sent p v call in
    λ i. record {
      new_messages = o.new_messages;
      verdicts = o.verdicts;
      last = o.last;
      message = o.message;
      delivered = delivered i;
      buffer = (after i).buffer;
    }

-- one call
publish-alike : (s : Setup) (u : Published) (d : Done) → (is_event d ≡ true → NoneExpired s u d) → publish deliverable s u d ≡ publish deliverable_by s u d
unfolding publish outcome_of
publish-alike s u d undue = go (is_event d) (get_elem? u.processes d.node) refl refl
  where
    go :
        (b : Bool) (o : Option Process) → is_event d ≡ b → get_elem? u.processes d.node ≡ o
        → publish_on deliverable s u d b o ≡ publish_on deliverable_by s u d b o
    go b none e q = refl
    go false (some p) e q = refl
    go true (some p) e q =
        let after = advanced-alike s d.clock p (messages_heard u.sent d.call.sources) (undue e p q) in
        λ i. record { processes = set u.processes d.node (after i); sent = (publish_on deliverable s u d true (some p)).sent }

-- all calls of a list
publish-all-alike :
    (s : Setup) (past : List Done) (u : Published)
    → ((j : ℕ) (d : Done) → get_elem? past j ≡ some d → publish deliverable s (publish_all deliverable_by s u (take j past)) d ≡ publish deliverable_by s (publish_all deliverable_by s u (take j past)) d)
    → (j : ℕ) → publish_all deliverable s u (take j past) ≡ publish_all deliverable_by s u (take j past)
unfolding publish_all
publish-all-alike s past u each zero = refl
publish-all-alike s [] u each (suc j) = refl
publish-all-alike s (d ∷ past) u each (suc j) =
    ap (λ (x : Published). publish_all deliverable s x (take j past)) (each 0 d refl)
    ∙ publish-all-alike s past (publish deliverable_by s u d) (λ k e at. each (suc k) e at) j

step-one : (past : List Done) → steps_of_one past ≡ true → (j : ℕ) (d : Done) → get_elem? past j ≡ some d → is_event d ≡ true → d.call.step ≡ 1
unfolding steps_of_one
step-one past ones j d at acc =
    elim (or_cases (not (is_event d)) (eqb d.call.step 1) (every-mem (λ e. not (is_event e) || eqb e.call.step 1) ones (get_elem?-mem past j at))) [
      | inl q ↦ absurd (clash acc (false_of_not (is_event d) q))
      | inr q ↦ eqb-true d.call.step 1 q
    ]

pub one-program : OneProgram
one-program s nodes calls start fresh kept none_old ones j =
    publish-all-alike s past (published_start s nodes)
    (λ k d at.
    publish-alike s (publish_all deliverable_by s (published_start s nodes) (take k past)) d
    (λ acc. (fresh-follow s nodes calls start fresh kept none_old k d at acc).1 (step-one past ones k d at acc))) j
  where
    past : List Done
    past = (run_from (at_start nodes) calls).past

pub demand2-ones : Demand2Ones
demand2-ones s nodes calls start fresh kept none_old ones j d at acc =
    let ((p, p-at, same), undue) = fresh-follow s nodes calls start fresh kept none_old j d at acc in
    let u = publish_all deliverable_by s (published_start s nodes) (take j (run_from (at_start nodes) calls).past) in
    subst (λ (x : Published). Matched deliverable s x d) (sym (one-program s nodes calls start fresh kept none_old ones j)) (
      p,
      p-at,
      subst (λ (o : Outcome). SameAs s o d)
          (sym (outcome-alike s u.sent p d.clock d.call (undue (step-one (run_from (at_start nodes) calls).past ones j d at acc) p p-at))) same,
    )
