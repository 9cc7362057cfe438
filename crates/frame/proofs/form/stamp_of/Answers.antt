-- `frame::form::stamp_of` meets its contract. Assumes nothing.
use Prim.Native.Nat.{ℕ}
use mathlib.Core.List.{List}
use mathlib.Core.Path.{◌∙◌, ap}
use native.Mathlib.Omega.{arith}
use lib.ListN.{get_or}
use Rattle.timestamp.specs.Views.{stamp_of}
use Rattle.model.specs.Frame.{counts_of, decode, two_at}
use Rattle.model.specs.Setup.{width}
use Rattle.lemmas.proofs.RoundTrip.{Formed, formed-from}
use Rattle.model.specs.Timestamp.{widened}
use Rattle.frame.proofs.form.stamp_of.Goals as goal

pub counts_of-kn-requires : goal.counts_of-kn-requires
unfolding width
counts_of-kn-requires c = let f : Formed c.args.epsilon c.args.s.now = formed-from c.args.epsilon c.args.s.now c.requires.1 in omega arith

pub returns : goal.returns
unfolding decode counts_of widened width
returns c =
    ap (λ (x : ℕ). stamp_of (record { r = x; c = c.c_of-c.result; kn = c.counts_of-kn.result })) (c.r_of-r.ensures c.args.epsilon)
    ∙ ap (λ (x : ℕ). stamp_of (record { r = two_at c.args.s.now 2; c = x; kn = c.counts_of-kn.result })) (c.c_of-c.ensures c.args.epsilon)
    ∙ ap (λ (x : List ℕ). stamp_of (record { r = two_at c.args.s.now 2; c = get_or c.args.s.now 5 0; kn = x })) c.counts_of-kn.ensures
