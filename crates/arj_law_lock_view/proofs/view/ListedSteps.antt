-- Ends that a coordinator tells are those that its actions have.
use Rattle.arj_law_parts.proofs.Words
use Words.{◌≡◌, ◌≢◌, ◌∙◌, true, Option, Some, is_some, ap, subst, Contains, in_from, End, Kind, Uid, first_uid, Coord, Doing, Branch}
use Words.{branch_of, root_of}
use Words.ending
use Words.kind
use Rattle.arj_law_lock_view.proofs.Terms
use Terms.{is_action, State, Action, Stands, act_of, action_of, where_stands, work_there, SeesAction, stage_of, IsTelling, HasEnded, View}
use Rattle.arj_law_lock_view.proofs.view.PlaceSteps.{acts_in}
use Rattle.arj_law_lock_view.specs.view.{Listed.DecidedHaveEnded, Listed.ListedHaveEnded, Telling.is_plain}

module _ (v : View) (c : Coord) (u : Uid) (b : Branch) (S : State) (tells : IsTelling v c S) (found : branch_of u c.tree ≡ Some b) where
  abbrev a : Action
  a = action_of b

  begun : Contains v.family.begun a
  begun = tells.good.known u b found

  its : act_of a ≡ u
  its = tells.good.tree.lists.places u b found

  -- how far it is in the machine
  stage_is : (e : End) → b.ended ≡ Some e → b.kind ≢ kind.Serial → (let z = S.action (v.family.act u) in z.stage)
      ≡ (let d = work_there c tells.works u b found in let w : Doing = d.0 in stage_of (Some e) w.now)
  stage_is e is unserial =
      let d = work_there c tells.works u b found in
      let action : is_action (v.family.act u) ≡ true = subst (λ (w : Uid). is_action (v.family.act w) ≡ true) its
      (acts_in (v.family.act (act_of a)) b.kind (tells.whole.placed a begun) unserial) in
      let s : SeesAction v.x b d.0 (S.action (v.family.act u)) = tells.actions.each u b d.0 found d.1 action in
      s.stage ∙ ap (λ (o : Option End). stage_of o (let w : Doing = d.0 in w.now)) is

  -- whoever is a unit of its own is its root
  own_root : is_plain b.kind ≡ true → root_of b.path ≡ u
  own_root plain = by b.kind (where_stands v.family.begun tells.whole.begun a (in_from a v.family.begun begun)) plain
    where
      by : (k : Kind) → Stands v.family.begun a k → is_plain k ≡ true → root_of b.path ≡ u
      by kind.Top s p = ap first_uid s.0 ∙ its
      by kind.Independent s p = ap first_uid s.0 ∙ its
      by kind.Serial s p = absurd (cc p)
      by kind.Nested s p = absurd (cc p)
      by kind.Constituent s p = absurd (cc p)

  ended : (e : End) → b.ended ≡ Some e → b.kind ≢ kind.Serial → HasEnded v S u e
  ended ending.Abort is unserial = stage_is ending.Abort is unserial
  ended ending.Commit is unserial = record {
    action = a;
    begun = begun;
    of = its;
    unserial = unserial;
    committed = stage_is ending.Commit is unserial;
    over = λ plain. tells.units u b found (own_root plain) (ap is_some is);
  }

pub decided_have_ended : DecidedHaveEnded
decided_have_ended v c u e b S tells found is unserial = ended v c u b S tells found e is unserial

pub listed_have_ended : ListedHaveEnded
listed_have_ended v c ends S tells decided unserial u e k = let d = decided u e k in
    ended v c u d.0 S tells d.1 e d.2 (unserial u e d.0 k d.1)
