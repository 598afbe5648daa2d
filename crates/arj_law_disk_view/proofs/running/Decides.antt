-- A top that its coordinator is to decide, by what is known in every run: it has a part only in what its own calls and includes use.
use Rattle.arj_law_parts.proofs.Words
use Words.{◌≡◌, ◌∙◌, ℕ, List, true, Some, ap, sym, Uid, Machine, Plan, plan_of, Committing, Doing, doing_of, root_at, top_uses, Disk}
use Words.{Intent, Parts, root_of, Seen}
use Rattle.arj_law_disk_view.proofs.Terms
use Terms.{Action, IsGoodOf, good_coord, it, up, KnowsFew, KnowsUses, KnowsCoord, KnowsKinds, plan_at, used_at, AreOneChange, Kinds}
use Terms.{has_part, DecidesTop}
use Rattle.arj_law_disk_view.proofs.running
use running.{DecidedPaths.decides_path, IncludedParts.include_used}
use running.ChangedParts.{changes_here, part_used}
use Rattle.arj_law_disk_view.specs.running.Facts.{KnowsParts}

-- So it is of a good node, where few bindings were made.
pub knows_parts : (acts : List Action) (k : ℕ) (d : Disk) (t : Parts) (M : Seen) → IsGoodOf acts (up k d t M) → KnowsFew (up k d t M) →
    KnowsUses t.coord → KnowsParts acts t
knows_parts acts k d t M good few uses = record {
  begun = good.begun;
  good = good_coord 0 k d t M (acts, good);
  sure = (let n = it 0 k d t M (acts, good) in n.sure);
  uses = uses;
  called = changes_here k d t M few;
}

module _ (x : ℕ) (acts : List Action) (t : Parts) (has : KnowsParts acts t) (tops : Kinds) (intents : List (Uid × Intent))
    (knows : KnowsCoord tops intents t.coord) (u : Uid) (q : Doing) (m : Machine) (p : Plan) (at : doing_of u t.coord ≡ Some q)
    (now : q.now ≡ Committing m) (used : p.used ≡ (plan_of m).used) (changed : p.changed ≡ (plan_of m).changed) where
  -- a top has a part in an object only in what it uses
  pub own_part : has_part (plan_at x p) ≡ true → top_uses u x (root_at (root_of (plan_of m).path) t.coord) t.coord ≡ true
  own_part part = part_used x t has.called u q m p at now changed (λ v is full. include_used acts has.begun t.coord has.good has.sure tops
      intents knows has.uses u q m at now x v (ap (used_at x) (sym used) ∙ is) full) part

  pub decides : KnowsKinds tops → p.path ≡ (plan_of m).path → AreOneChange p → DecidesTop x tops (root_of (plan_of m).path) u p t.coord
  decides kinds path one = decides_path tops kinds intents t.coord knows x u q m p at now path changed one own_part
