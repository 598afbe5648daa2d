-- One action that ends by itself, walked through at its coordinator.
use Rattle.arj_law_parts.proofs.Words
use Words.{◌≡◌, ◌≢◌, ℕ, zero, suc, ◌&&◌, List, [], ◌∷◌, Bool, true, false, Option, Some, None, refl, sym, ◌∙◌, ap, subst, slice_get}
use Words.{append-nil, not, is_some, list_any, uid_same, Uid, End, Label, Body, Kind, uid_eq, first_uid, before_last, uids_of, Coord, Doing}
use Words.{doing_of, Disk, says, say_for, ended, ends_with, tolds_of, Parts, with_coord, uid_number, AreAll, Branch, branch_of, is_open}
use Words.{is_open_branch, is_parent, has_open_child, root_of, ends_of, number_tells, Seen, is_serial}
use Words.kind
use Rattle.arj_law_disk_view.proofs.Terms
use Terms.{World, after, Meaning, is_gone, never, never_some, or_left, or_right, put_same, up, DidIsWalked, SeesRecords, nodes_of}
use Terms.{KnowsKinds, KnowsCoord, IsOfKind, Kinds, SeesDisks, SeesCoord}
use Terms.machine
use Terms.mail
use Terms.disk
use Rattle.arj_law_disk_view.proofs.view
use view.{AbortWalks.top_open, Ending.one_halts, Frames.node_here, TopFrames.branch_at}
use view.ActionAborts.{dead_told, place_of, serial_over}
use view.Ends.{OnlyEnds, one_ends, one_listed, up_to_ends}
use view.HeardWalks.{is_say, say_walk}
use view.TellWalks.{EndsNoTop, MayTell, IsToldOf, Goes, tolds_walk}
use Rattle.arj_law_disk_view.specs.view.Coordinating.{ActionsEnd}

-- what passes a test at a place passes it somewhere
place_any : {A : Type 0} (f : A → Bool) (xs : List A) (j : ℕ) (a : A) → slice_get xs j ≡ Some a → f a ≡ true → list_any f xs ≡ true
place_any f [] j a is on = absurd (cc is)
place_any f (y ∷ ys) zero a is on = let same : y ≡ a = cc is in or_left (f y) (list_any f ys) (ap f same ∙ on)
place_any f (y ∷ ys) (suc j) a is on = or_right (f y) (list_any f ys) (place_any f ys j a is on)

module _ (x : ℕ) (tops : Kinds) (e k : ℕ) (d : Disk) (t : Parts) (act : Uid) (b : Branch) (how : End) (line : Label →
    Body) (M : Seen) (kinds : KnowsKinds tops) (knows : KnowsCoord tops d.intents t.coord) (found : branch_of act t.coord.tree ≡ Some b)
    (unended : b.ended ≡ None)
    (childless : is_serial b.kind ≡ true →
    has_open_child act t.coord.tree ≡ false) (W : World) (sees : SeesDisks x tops W (up k d t M)) where
  at_work : doing_of act t.coord ≡ Some (knows.at_work act b found).0
  at_work = (knows.at_work act b found).1

  abbrev C : Coord
  C = ended act how t.coord

  abbrev V : World
  V = after W (machine.Halt (uid_number act))

  mine : SeesCoord x k d.inc tops t.coord W.disk
  mine =
      sees.coords k (record { number = k; disk = d; live = Some t }) t (node_here M k (record { number = k; disk = d; live = Some t })) refl

  records : SeesRecords k d.intents W.disk
  records = sees.records k (record { number = k; disk = d; live = Some t }) (node_here M k (record { number = k; disk = d; live = Some t }))

  here : act.node ≡ k
  here = (branch_at act t.coord b found).0 ∙ mine.node

  open_now : is_open act t.coord.tree ≡ true
  open_now = ap is_open_branch found ∙ ap (λ (o : Option End). not (is_some o)) unended

  halted_seen : SeesDisks x tops V (up k d (with_coord t C) M)
  halted_seen = one_halts t.coord act b (knows.at_work act b found).0 how found at_work x k tops W M d t (knows.unrecorded act open_now)
      (λ bare. let n = mine.bare act b (knows.at_work act b found).0 found at_work bare in never_some n.committed unended) sees

  gone : is_gone (V.disk.stage (uid_number act)) ≡ true
  gone = ap is_gone (put_same (uid_number act) disk.Gone W.disk.stage)

  ends : OnlyEnds t.coord C
  ends = one_ends t.coord act b (knows.at_work act b found).0 how found at_work

  plain : tops.is_top (uid_number act) ≡ true → (n : ℕ) → Meaning V.disk (mail.ToldAbort (uid_number act) n)
  plain top n = dead_told V.disk (uid_number act) n gone (records.is act here ∙ ap nodes_of (knows.unrecorded act open_now))
      (λ bare. never (sees.whole.core.bare.gone (uid_number act) bare) (top_open x tops W.disk (uid_number act) b.kind
      (let r = (knows.at_work act b found).0 in r.now) top (mine.working act b (knows.at_work act b found).0 found unended at_work)))

  -- a constituent that is open is an open child
  none_open : has_open_child act t.coord.tree ≡ false → (w : Uid) → is_open w C.tree ≡ true → tops.is_top (uid_number w) ≡ true →
      tops.root (uid_number w) ≡ uid_number act → w ≢ act → ⊥
  none_open childless w o top root other = by (branch_of w t.coord.tree) refl (ends.was_open w o)
    where
      by_kind : (z : Branch) → branch_of w t.coord.tree ≡ Some z → not (is_some z.ended) ≡ true → root_of z.path ≡ act → (kd : Kind) →
          IsOfKind tops w kd z.path → ⊥
      by_kind z is h of kind.Nested p = never top p.0
      by_kind z is h of kind.Serial p = never top p.0
      by_kind z is h of kind.Top p = other (ap first_uid (sym p.2) ∙ of)
      by_kind z is h of kind.Independent p = other (ap first_uid (sym p.2) ∙ of)
      by_kind z is h of kind.Constituent p =
          let at = place_of t.coord w z is in
          never (place_any (λ (y : Branch). is_parent act (before_last (uids_of y.path)) && not (is_some y.ended)) t.coord.tree.branches
          at.0 z at.1
          ((λ i. is_parent act (before_last (p.2 i)) && h i) ∙ (λ i. uid_eq (of i) act && true) ∙ ap (λ c. c && true) (uid_same act)))
          childless

      by : (g : Option Branch) → branch_of w t.coord.tree ≡ g → is_open_branch g ≡ true → ⊥
      by None is h = absurd (cc h)
      by (Some z) is h = by_kind z is h (number_tells (root_of z.path) act (sym (knows.root w z is top) ∙ root)) z.kind (knows.kind w z is)

  may_tell : (kd : Kind) → b.kind ≡ kd → IsOfKind tops act kd b.path → MayTell tops d C V.disk act kd b.path
  may_tell kind.Nested is of = let r = up_to_ends act (ends_of (root_of b.path) C.tree) (one_listed t.coord act b
      (knows.at_work act b found).0 how found at_work of.2) in subst (λ o. EndsNoTop tops o) (sym r.1) (of.0, of.1)
  may_tell kind.Serial is of =
      serial_over x k tops d t C M V halted_seen kinds act here gone of.1 of.0 (none_open (childless (ap is_serial is))) knows.rooted
  may_tell kind.Top is of = (of.0, plain of.0)
  may_tell kind.Independent is of = (of.0, plain of.0)
  may_tell kind.Constituent is of = (of.0, plain of.0)

  told : IsToldOf tops d C V.disk act
  told = let z = ends.kept act b found in
      record {
        branch = z.0;
        found = z.1;
        may = subst (λ kd. MayTell tops d C V.disk act kd (let y = z.0 in y.path)) (sym z.2)
            (subst (λ p. MayTell tops d C V.disk act b.kind p) (sym z.3) (may_tell b.kind refl (knows.kind act b found)));
      }

  line_says : AreAll is_say (says act line t.coord)
  line_says = by (doing_of act t.coord)
    where
      by : (o : Option Doing) → AreAll is_say (say_for line o)
      by None = refl
      by (Some r) = refl

  goes : Goes x k tops e d t C V.disk (tolds_of d.intents C act)
  goes = subst (λ es. Goes x k tops e d t C V.disk es) (append-nil (tolds_of d.intents C act))
      (tolds_walk x k tops e d t C V.disk act [] (λ N U same s. (U, s)) told)

  pub end_walks : DidIsWalked x tops e k d t (ends_with act how line d.intents t.coord) M
  end_walks = say_walk x k tops e (with_coord t C) (with_coord t C) (says act line t.coord) (tolds_of d.intents C act) d V line_says
      (λ N s. goes N V refl s) M halted_seen

pub actions_end : ActionsEnd
actions_end x tops e k d t act b how line M kinds knows found unended childless W sees =
    end_walks x tops e k d t act b how line M kinds knows found unended childless W sees
