-- The hearing loop, turn by turn, whatever hearing one entry does (02, 2.9: at a station, an observer and an engine): the frames held so far
-- with the verdicts so far, and what hearing the rest makes of them, is what hearing the whole batch makes. Assumes nothing.
use Prim.Native.Nat.{ℕ, suc, ◌+◌, ◌-◌, ◌≤◌, ◌<◌}
use native.Mathlib.Nat.{sub-zero, add-zero}
use native.Mathlib.Numerals.{add-one}
use native.Mathlib.Omega.{arith}
use mathlib.Core.Path.{◌≡◌, refl, sym, ap, ap₂, ◌∙◌}
use mathlib.Core.Bool.{true}
use mathlib.Core.List.{List, [], ◌∷◌, ◌++◌, append_assoc, append-nil}
use lib.Dec.{eqb}
use lib.ListN.{length, take, drop, get_or, set, length-set, length-append, take-append-drop}
use lib.Seq.{take-suc-set, drop-cons, drop-set-lt, length-take-le, drop-drop, get_or-append_seam}
use borrow.Author.Tests.{ne_eqb}
use Rattle.laws.specs.Lists.{select, overlay, fold_left}
use Rattle.laws.proofs.Lists.{select-append, select_no, overlay-hides}
use Rattle.model.specs.Frame.{Frame}
use Rattle.model.specs.Batch.{exact_batch, batch_entries}
use Rattle.model.specs.Judge.{Heard}
use Rattle.model.specs.Tick.{taken_count}
use Rattle.lemmas.proofs.OneTick.{taken_more}
use Rattle.batch.specs.Walk.{count_of, entry_at, next_at}
use Rattle.batch.proofs.Walk.{walked, batch-walked}
use Rattle.node.specs.States.{HeardBuffers}

-- hearing one entry
abbrev pub Hearer : Type 0
Hearer = Heard → List ℕ → Heard

-- what is heard of a batch by it
abbrev pub heard_by : Hearer → List Frame → List ℕ → Heard
heard_by one queue batch = fold_left one (record { queue = queue; verdicts = [] }) (batch_entries batch)

-- the frames held and the verdicts, as the buffers have them
abbrev pub sofar : List Frame → List ℕ → Heard
sofar queue done = record { queue = queue; verdicts = done }

-- this half of the loop's invariant, at entry i, whose length stands at `at`
pub record HearTurning (one : Hearer) (queue₀ : List Frame) (batch verdicts₀ : List ℕ) (queue : List Frame) (took at i : ℕ) (verdicts : List ℕ) : Type 0 where
  pub within : i ≤ count_of batch
  pub whole : heard_by one queue₀ batch ≡ fold_left one (sofar queue (take i verdicts)) (walked (count_of batch - i) batch at)
  pub taken_is : took ≡ taken_count (take i verdicts)
  pub few : took ≤ i
  pub long : length verdicts ≡ length verdicts₀
  pub after : drop i verdicts ≡ drop i verdicts₀

pub hear-start : {one : Hearer} {batch : List ℕ} {queue : List Frame} {verdicts : List ℕ} → exact_batch batch ≡ true → HearTurning one queue batch verdicts queue 0 1 0 verdicts
unfolding taken_count select
hear-start {one} {batch} exact =
    record {
      within = omega arith;
      whole = rw (sub-zero (count_of batch), batch-walked batch exact);
      taken_is = refl;
      few = omega arith;
      long = refl;
      after = refl;
    }

-- one verdict more
refused-more : (done : List ℕ) (x : ℕ) → (x ≡ 0 → ⊥) → taken_count (done ++ (x ∷ [])) ≡ taken_count done
unfolding taken_count select
refused-more done x h =
    rw (select-append (λ y. eqb y 0) done (x ∷ []), select_no (λ y. eqb y 0) x [] (ne_eqb x 0 h))
    (length-append (select (λ y. eqb y 0) done) [] ∙ add-zero _)

rest-after : (l l₀ : List ℕ) (i x : ℕ) → drop i l ≡ drop i l₀ → drop (i + 1) (set l i x) ≡ drop (i + 1) l₀
rest-after l l₀ i x e =
    drop-set-lt (i + 1) l i x (omega arith) ∙ (sym (drop-drop 1 i l) ∙ (ap (drop 1) e ∙ drop-drop 1 i l₀))

done_more : (l : List ℕ) (i x : ℕ) → i < length l → take (i + 1) (set l i x) ≡ take i l ++ (x ∷ [])
done_more l i x h = rw add-one (take-suc-set l i x h)

pub walk_more : (batch : List ℕ) (at i : ℕ) → i < count_of batch → walked (count_of batch - i) batch at ≡ entry_at batch at ∷ walked (count_of batch - (i + 1)) batch (next_at batch at)
unfolding walked
walk_more batch at i h =
    let e : count_of batch - i ≡ suc (count_of batch - (i + 1)) = omega arith in
    rw e

-- one turn: the entry's bytes are heard, and the next entry stands at `at'`
module _ {one : Hearer} {queue₀ : List Frame} {batch verdicts₀ : List ℕ} {queue : List Frame} {took at i : ℕ} {verdicts : List ℕ}
    (u : HearTurning one queue₀ batch verdicts₀ queue took at i verdicts) (more : i < count_of batch) (few : count_of batch ≤ length verdicts₀)
    {bytes : List ℕ} {at' : ℕ} (entry : bytes ≡ entry_at batch at) (step : at' ≡ next_at batch at) where
  abbrev others : List (List ℕ)
  others = walked (count_of batch - (i + 1)) batch at'

  heard-one : heard_by one queue₀ batch ≡ fold_left one (one (sofar queue (take i verdicts)) bytes) others
  unfolding fold_left
  heard-one =
      u.whole
      ∙ ap (fold_left one (sofar queue (take i verdicts)))
      (walk_more batch at i more ∙ ap₂ (λ (b : List ℕ) (k : ℕ). b ∷ walked (count_of batch - (i + 1)) batch k) (sym entry) (sym step))

  inside : i < length verdicts
  inside = omega (arith, u.long)

  heard-next : (queue' : List Frame) (x : ℕ) → one (sofar queue (take i verdicts)) bytes ≡ sofar queue' (take i verdicts ++ (x ∷ []))
      → heard_by one queue₀ batch ≡ fold_left one (sofar queue' (take (i + 1) (set verdicts i x))) others
  heard-next queue' x e =
      heard-one
      ∙ ap (λ (h : Heard). fold_left one h others) (e ∙ ap (sofar queue') (sym (done_more verdicts i x inside)))

  pub hear-refused : {x : ℕ} → (x ≡ 0 → ⊥) → one (sofar queue (take i verdicts)) bytes ≡ sofar queue (take i verdicts ++ (x ∷ []))
      → HearTurning one queue₀ batch verdicts₀ queue took at' (i + 1) (set verdicts i x)
  hear-refused {x} no_zero e =
      record {
        within = omega arith;
        whole = heard-next queue x e;
        taken_is = u.taken_is ∙ sym (ap taken_count (done_more verdicts i x inside) ∙ refused-more (take i verdicts) x no_zero);
        few = omega (arith, u.few);
        long = length-set verdicts i x ∙ u.long;
        after = rest-after verdicts verdicts₀ i x u.after;
      }

  pub hear-taken : {queue' : List Frame} → one (sofar queue (take i verdicts)) bytes ≡ sofar queue' (take i verdicts ++ (0 ∷ []))
      → HearTurning one queue₀ batch verdicts₀ queue' (took + 1) at' (i + 1) (set verdicts i 0)
  hear-taken {queue'} e =
      record {
        within = omega arith;
        whole = heard-next queue' 0 e;
        taken_is = ap (λ (n : ℕ). n + 1) u.taken_is ∙ sym (ap taken_count (done_more verdicts i 0 inside) ∙ taken_more (take i verdicts));
        few = omega (arith, u.few);
        long = length-set verdicts i 0 ∙ u.long;
        after = rest-after verdicts verdicts₀ i 0 u.after;
      }

-- hearing an entry leaves the verdicts before it as they are
abbrev pub Adding : Hearer → Type 0
Adding one = (h : Heard) (bytes : List ℕ) → (numbers : List ℕ) × ((one h bytes).verdicts ≡ h.verdicts ++ numbers)

heard-more : (one : Hearer) → Adding one → (h : Heard) (entries : List (List ℕ)) → (numbers : List ℕ) × ((fold_left one h entries).verdicts ≡ h.verdicts ++ numbers)
unfolding fold_left
heard-more one adds h [] = ([], sym (append-nil h.verdicts))
heard-more one adds h (bytes ∷ rest) =
    let (first, e) = adds h bytes in
    let (later, e') = heard-more one adds (one h bytes) rest in
    (first ++ later, e' ∙ (ap (λ (l : List ℕ). l ++ later) e ∙ append_assoc h.verdicts first later))

-- the verdicts of all entries have the one that was written last at its place, whatever is heard after it
seam : (numbers done rest : List ℕ) (i x : ℕ) → length done ≡ i → numbers ≡ (done ++ (x ∷ [])) ++ rest → drop i numbers ≡ x ∷ drop (i + 1) numbers
seam numbers done rest i x size e =
    let e' : numbers ≡ done ++ (x ∷ rest) = e ∙ append_assoc done (x ∷ []) rest in
    let long : length numbers ≡ length done + length (x ∷ rest) = ap length e' ∙ length-append done (x ∷ rest) in
    let here : get_or numbers i 0 ≡ x = ap₂ (λ (l : List ℕ) (k : ℕ). get_or l k 0) e' (sym size) ∙ get_or-append_seam done x rest 0 in
    rw (add-one i) (drop-cons numbers i 0 (omega arith) ∙ ap (λ (y : ℕ). y ∷ drop (suc i) numbers) here)

pub written_last : {one : Hearer} {queue₀ : List Frame} {batch verdicts₀ : List ℕ} {queue : List Frame} {took at : ℕ} → Adding one → (verdicts : List ℕ) (i x : ℕ)
    → HearTurning one queue₀ batch verdicts₀ queue took at (i + 1) (set verdicts i x) → i < length verdicts
    → drop i (heard_by one queue₀ batch).verdicts ≡ x ∷ drop (i + 1) (heard_by one queue₀ batch).verdicts
written_last {one} {queue₀} {batch} {verdicts₀} {queue} {took} {at} adds verdicts i x u inside =
    let h : Heard = sofar queue (take (i + 1) (set verdicts i x)) in
    let (rest, e) = heard-more one adds h (walked (count_of batch - (i + 1)) batch at) in
    seam (heard_by one queue₀ batch).verdicts (take i verdicts) rest i x (length-take-le i verdicts (omega arith))
    (ap (λ (y : Heard). y.verdicts) u.whole ∙ (e ∙ ap (λ (l : List ℕ). l ++ rest) (done_more verdicts i x inside)))

-- all entries are heard
heard-none : (one : Hearer) (h : Heard) (batch : List ℕ) (at k : ℕ) → k ≡ 0 → fold_left one h (walked k batch at) ≡ h
unfolding fold_left walked
heard-none one h batch at k e = rw e

module _ {one : Hearer} {queue₀ : List Frame} {batch verdicts₀ : List ℕ} {queue : List Frame} {took at i : ℕ} {verdicts : List ℕ}
    (u : HearTurning one queue₀ batch verdicts₀ queue took at i verdicts) (h : count_of batch ≤ i) (few : count_of batch ≤ length verdicts₀) where
  all : heard_by one queue₀ batch ≡ sofar queue (take i verdicts)
  all = u.whole ∙ heard-none one (sofar queue (take i verdicts)) batch at (count_of batch - i) (omega arith)

  pub heard-queue : queue ≡ (heard_by one queue₀ batch).queue
  heard-queue = ap (λ (x : Heard). x.queue) (sym all)

  pub heard-numbers : verdicts ≡ overlay (heard_by one queue₀ batch).verdicts verdicts₀
  unfolding overlay
  heard-numbers =
      let size : length (take i verdicts) ≡ i = length-take-le i verdicts (omega (arith, u.long, u.within)) in
      sym (take-append-drop i verdicts)
      ∙ (ap (λ (l : List ℕ). take i verdicts ++ l) (u.after ∙ ap (λ (n : ℕ). drop n verdicts₀) (sym size))
      ∙ ap (λ (x : Heard). x.verdicts ++ drop (length x.verdicts) verdicts₀) (sym all))

  pub heard-taken : took ≡ taken_count (heard_by one queue₀ batch).verdicts
  heard-taken = u.taken_is ∙ ap (λ (x : Heard). taken_count x.verdicts) (sym all)

-- ---- with every byte of the buffer: `held` says which frames stand in it, and `bytes` what frames come to

pub record LaidTurning (one : Hearer) (held : List ℕ → List Frame) (bytes : List Frame → List ℕ) (batch buffer₀ verdicts₀ : List ℕ) (took at i : ℕ) (buffer verdicts : List ℕ) : Type 0 where
  pub heard : HearTurning one (held buffer₀) batch verdicts₀ (held buffer) took at i verdicts
  pub laid : buffer ≡ overlay (bytes (held buffer)) buffer₀

module _ {one : Hearer} {held : List ℕ → List Frame} {frame_bytes : List Frame → List ℕ} {batch buffer₀ verdicts₀ : List ℕ} {took at i : ℕ} {buffer verdicts : List ℕ}
    (u : LaidTurning one held frame_bytes batch buffer₀ verdicts₀ took at i buffer verdicts) where
  module _ (more : i < count_of batch) (few : count_of batch ≤ length verdicts₀) {bytes : List ℕ} {at' : ℕ} (entry : bytes ≡ entry_at batch at) (step : at' ≡ next_at batch at) where
    pub laid-refused : {x : ℕ} → (x ≡ 0 → ⊥) → one (sofar (held buffer) (take i verdicts)) bytes ≡ sofar (held buffer) (take i verdicts ++ (x ∷ []))
        → LaidTurning one held frame_bytes batch buffer₀ verdicts₀ took at' (i + 1) buffer (set verdicts i x)
    laid-refused no_zero e = record { heard = hear-refused u.heard more few entry step no_zero e; laid = u.laid }

    -- the frames with the taken one take no fewer bytes
    pub laid-taken : {queue' : List Frame} {buffer' : List ℕ} → one (sofar (held buffer) (take i verdicts)) bytes ≡ sofar queue' (take i verdicts ++ (0 ∷ []))
        → held buffer' ≡ queue' → buffer' ≡ overlay (frame_bytes queue') buffer → length (frame_bytes (held buffer)) ≤ length (frame_bytes queue')
        → LaidTurning one held frame_bytes batch buffer₀ verdicts₀ (took + 1) at' (i + 1) buffer' (set verdicts i 0)
    laid-taken {queue'} e back put longer =
        let hidden : overlay (frame_bytes queue') buffer ≡ overlay (frame_bytes queue') buffer₀ =
        ap (overlay (frame_bytes queue')) u.laid ∙ overlay-hides (frame_bytes queue') (frame_bytes (held buffer)) buffer₀ longer in
        record {
          heard = hear-taken u.heard more few entry step (e ∙ ap (λ (q : List Frame). sofar q (take i verdicts ++ (0 ∷ []))) (sym back));
          laid = put ∙ hidden ∙ ap (λ (q : List Frame). overlay (frame_bytes q) buffer₀) (sym back);
        }

  pub laid_end : count_of batch ≤ i → count_of batch ≤ length verdicts₀ → HeardBuffers held frame_bytes (heard_by one (held buffer₀) batch) buffer₀ verdicts₀ took buffer verdicts
  laid_end h few =
      record {
        buffer-is = u.laid ∙ ap (λ (q : List Frame). overlay (frame_bytes q) buffer₀) (heard-queue u.heard h few);
        queue = heard-queue u.heard h few;
        numbers = heard-numbers u.heard h few;
        taken_is = heard-taken u.heard h few;
      }
