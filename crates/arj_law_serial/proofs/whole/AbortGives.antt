-- Where an abort is told of a committed top whose unit isn't over, nobody there was asked for a part in its commit.
use Rattle.arj_law_parts.proofs.Words
use Words.{◌≡◌, ◌≢◌, ◌∙◌, ℕ, Bool, true, false, cond, List, [], ◌∷◌, refl, sym, ap, subst, inl, inr, ⊎_elim, Option, Some, None, Contains}
use Words.{is_some, eqb-true, false_from_ne_true, in_from, in_to, Kind, Uid, first_uid, is_on, uids_of, Now, Intent, Naming, Parts, at_uid}
use Words.{Node, Branch, at_place, branch_of, is_own, is_serial, root_of, Seen}
use Words.list
use Words.ask
use Words.ending
use Words.kind
use Rattle.arj_law_serial.proofs.Terms
use Terms.{Values, Root, is_action, on, root, State, on_root as same_unit, top_action, top_of as above_is, top_self, Action, action_of}
use Terms.{act_of, paths_of, IsGoodCoord, IsOver, IsDecided, begun_tree, one_action, path_found, work_there, IsMemory, IsUp, same_number}
use Terms.{book, is_decided, new_book, AreAlike, AreRight, has_act, sane_lines, sane_new, act_there, is_book, its_acts, AreRecorded}
use Terms.{IsRooted, root_on, KnowsParted, EndsSo, IsTiedToLines, IsPlaced, stage_of, SeesNamingIn, SeesNaming, AreOneTree, IsConfirmedNow}
use Terms.{IsSeenIn, IsToldAbort, Spot, server_at, world_at, StandsFor, Fixed, view_of, case_of, IsPast, SeesDown, SeesMemory, SeesUp}
use Terms.{AbortsAreKnown, IsAbortTold, IsPartAsked, AcksAreKnown}
use Rattle.arj_law_lock.specs.machine.Actions.{is_top}
use Rattle.arj_law_lock_view.proofs.facts.Confirms.{own_top}
use Rattle.arj_law_lock_view.specs.running.{Beside.IsCommittedTop, Beside.IsUnitOver, Sees.HasConfirm}
use Rattle.arj_law_lock_view.specs.view.Actions.{SeesAction}
use Rattle.arj_law_runs.proofs.journal.{Books.Sane, Models.decided_in}
use Rattle.arj_law_serial.proofs.{order.Ties.as_said, whole.AbortRuns.root_own, whole.AckSteps.voter_part}
use Rattle.arj_law_serial.specs.whole.Aborts.{IsBegunAt}
use Rattle.arj_model.specs.Actions as model

never : {P : Type 0} {b : Bool} → b ≡ true → b ≡ false → P
never {P} {b} holds fails = let no_way : true ≡ false = sym holds ∙ fails in absurd (cc no_way)

-- one of the journal's actions was begun, of its kind
owned : (begun : List Action) (xs : List model.Act) → AreAlike begun xs → (a : model.Act) → list.In a xs →
    (b : Action) × list.In b begun × (act_of b ≡ a.uid) × (b.kind ≡ a.kind)
owned [] [] alike a i = absurd i
owned [] (x ∷ xs) alike a i = absurd alike
owned (b ∷ begun) [] alike a i = absurd i
owned (b ∷ begun) (x ∷ xs) alike a (inl is) =
    (b, inl refl, sym alike.0 ∙ ap (λ (y : model.Act). y.uid) is, sym alike.1 ∙ ap (λ (y : model.Act). y.kind) is)
owned (b ∷ begun) (x ∷ xs) alike a (inr i) = let r = owned begun xs alike.3 a i in (r.0, inr r.1, r.2, r.3)

module _ (f : Fixed) (x : ℕ) (begun : List Action) (S : State) (s : Spot) (seen : IsSeenIn (case_of f x begun S) (world_at s))
    (parted : KnowsParted begun (world_at s)) (records : AreRecorded begun (world_at s)) (knows : AbortsAreKnown begun (world_at s))
    (begins : (values : Values) × StandsFor f (values x)) where
  abbrev M : Seen
  M = s.seen

  whole : AreOneTree (record { begun = begun; paths = f.paths; act = f.act })
  whole = let a = seen.agrees in a.whole

  here : (let W = world_at s in W.nodes s.node) ≡ Some (record { number = s.node; disk = s.disk; live = Some s.parts })
  here = λ i. cond (same_number s.node i) (Some (record { number = s.node; disk = s.disk; live = Some s.parts })) (M.nodes s.node)

  -- who stands on the path of an action has its unit
  unit_is : (a : Action) (w : Uid) → Contains begun a → is_on (uids_of a.path) w ≡ true → on (f.act (act_of a)) (f.act w) ≡ true
  unit_is a w known above = whole.alike.above (act_of a) w ∙ ap (λ us. is_on us w) (whole.agree a known) ∙ above

  module _ (u : Uid) (told : IsToldAbort s u) (top_u : IsCommittedTop (case_of f x begun S) u)
      (open_unit : IsUnitOver (case_of f x begun S) u → ⊥) (part : IsPartAsked M.sent u s.node) where
    told_it : IsAbortTold M.sent u s.node
    told_it = (let p = told in p.post, told.sent, told.to, told.told)

    was : IsBegunAt begun (let W = world_at s in W.nodes) u
    was = knows.told u s.node told_it

    abbrev a : Action
    a = was.0.0

    abbrev n : Node
    n = was.1.0

    known : Contains begun a
    known = was.0.1

    of : act_of a ≡ u
    of = was.0.2

    place : IsPlaced (f.act (act_of a)) a.kind
    place = whole.placed a known

    unnested : a.kind ≢ kind.Nested
    unnested nested = never (ap (λ w. is_top (f.act w)) of ∙ top_u.0) (subst (IsPlaced (f.act (act_of a))) nested place).1

    memory : SeesMemory (view_of f x begun u.node) S n.disk n.live
    memory = let r = seen.sees in r.nodes u.node n was.1.1

    past : IsPast (view_of f x begun u.node) (act_of a) S → ⊥
    past p = open_unit (ap (λ w. (let z = S.action (Root (root (f.act w))) in z.stage)) (sym of) ∙ p.over)

    -- while its node is up
    up_now : (t : Parts) → n.live ≡ Some t → SeesUp (view_of f x begun u.node) S n.disk t → ⊥
    up_now t live m =
        ⊎_elim (λ b. by b.0 (ap (λ w. branch_of w t.coord.tree) (sym of) ∙ b.1)) past (m.past a known (ap (λ (w : Uid). w.node) of))
      where
        mine : IsUp begun M.sent M.labels u.node (let d = n.disk in d.inc) t
        mine = let p = (let g = seen.good in g.places u.node n was.1.1) in
            subst (IsMemory begun M.sent M.labels u.node (let d = n.disk in d.inc)) live p.memory

        coord : IsGoodCoord begun (paths_of begun) t.coord
        coord = let g = mine.good (paths_of begun) (begun_tree begun (let z = seen.good in z.begun))
            (path_found begun (let z = seen.good in z.begun)) in g.coord

        by : (b : Branch) → branch_of u t.coord.tree ≡ Some b → ⊥
        by b found =
            ⊎_elim aborted rooted ((knows.up u.node n t was.1.1 live u s.node told_it (own_by (is_own u t.coord.tree) found)).1 part)
          where
            own_by : (z : Bool) → cond z (at_place u.num t.coord.tree.branches) None ≡ Some b → z ≡ true
            own_by true is = refl
            own_by false is = let no_way : ◌≡◌ {A = Option Branch} None (Some b) = is in absurd (cc no_way)

            aborted : IsDecided u ending.Abort t.coord.tree → ⊥
            aborted gone =
                let q = work_there t.coord (let w = mine.faithful in w.works) u gone.0 gone.1 in
                let z : SeesAction x gone.0 q.0 (S.action (f.act u)) = (let w = m.coord in let y = w.coord in let h = y.actions in
                h.each u gone.0 q.0 gone.1 q.1 (top_action (f.act u) top_u.0)) in
                four (let d = q.0 in d.now) (ap (λ o. stage_of o (let d = q.0 in d.now)) (sym gone.2) ∙ sym z.stage ∙ top_u.1)
              where
                four : (now : Now) → stage_of (Some ending.Abort) now ≡ 3 → ⊥
                four now is = cc is

            rooted : (c : Action) × Contains begun c × (act_of c ≡ u) × IsOver (root_of c.path) t.coord.tree → ⊥
            rooted over =
                let started = (let z = seen.good in z.begun) in
                let one : over.0 ≡ a = one_action begun started over.0 a (in_from over.0 begun over.1) (in_from a begun known)
                (over.2 ∙ sym of) in
                let o : IsOver (root_of a.path) t.coord.tree = subst (λ (z : Action). IsOver (root_of z.path) t.coord.tree) one over.3 in
                let r = root_own begun started a known unnested in
                let same : r.0 ≡ action_of o.0 = one_action begun started r.0 (action_of o.0) (in_from r.0 begun r.1) (in_from (action_of
                o.0) begun (coord.known (root_of a.path) o.0 o.1)) (r.2 ∙ sym (coord.tree.lists.places (root_of a.path) o.0 o.1)) in
                let own : root_of (let z = o.0 in z.path) ≡ root_of a.path = ap (λ (z : Action). root_of z.path) (sym same) ∙ r.3 in
                let unit : root (f.act u) ≡ root (f.act (root_of a.path)) = ap (λ w. root (f.act w)) (sym of)
                ∙ same_unit (f.act (act_of a)) (f.act (root_of a.path)) (unit_is a (root_of a.path) known (root_on a.path)) in
                open_unit (ap (λ k. (let z = S.action (Root k) in z.stage)) unit
                ∙ (let w = m.coord in w.units (root_of a.path) o.0 o.1 own o.2))

    -- while it is down
    tied : IsTiedToLines f.act f.code begins.0 x M.lines S
    tied = seen.tied begins.0 begins.1

    right : AreRight new_book M.lines
    right = (let w = seen.written in w.right)

    -- the machine has of the journal's actions what it says
    ends : (w : Uid) (c : model.Act) → Contains (model.acts M.lines) c → c.uid ≡ w → is_action (f.act w) ≡ true →
        EndsSo M.lines c (S.action (f.act w))
    ends w c there is acts_it =
        let b = owned begun (model.acts M.lines) (subst (AreAlike begun) (its_acts M.lines right) seen.alike) c
        (in_from c (model.acts M.lines) there) in
        subst (λ z. EndsSo M.lines c (S.action (f.act z))) is (tied.ends c there (plain c.kind (λ serial. never (ap (λ z. is_action (f.act
        z)) (b.2 ∙ is) ∙ acts_it) (subst (IsPlaced (f.act (act_of b.0))) (b.3 ∙ serial) (whole.placed b.0 (in_to b.0 begun b.1))))))
      where
        plain : (k : Kind) → (k ≡ kind.Serial → ⊥) → is_serial k ≡ false
        plain kind.Serial no_it = absurd (no_it refl)
        plain kind.Top no_it = refl
        plain kind.Nested no_it = refl
        plain kind.Independent no_it = refl
        plain kind.Constituent no_it = refl

    down_now : n.live ≡ None → SeesDown (view_of f x begun u.node) S n.disk → ⊥
    down_now dead m = ⊎_elim (λ b. by b.0 (ap (λ w. branch_of w m.tree) (sym of) ∙ b.1)) past (m.past a known (ap (λ (w : Uid). w.node) of))
      where
        by : (b : Branch) → branch_of u m.tree ≡ Some b → ⊥
        by b found = ⊎_elim (λ late. last late.0 late.1 late.2 late.3) (λ over. open_unit over) (let h = m.stopped in h.units u b found)
          where
            last : (w : Uid) → m.last ≡ Some w → root (f.act w) ≡ root (f.act u) →
                (let z = S.action (Root (root (f.act u))) in z.stage) ≡ 0 → ⊥
            last w is unit opened = some (at_uid w (let d = n.disk in d.intents)) refl (m.decided w is)
              where
                top_w :
                    (z : Branch) × (branch_of w m.tree ≡ Some z) × (is_top (f.act w) ≡ true) × ((let y = S.action (f.act w) in y.stage) ≡ 2)
                top_w = let h = m.stopped in h.top w is

                apart : f.act u ≡ f.act w → ⊥
                apart same = cc (sym top_u.1 ∙ ap (λ z. (let y = S.action z in y.stage)) same ∙ top_w.3)

                undecided : is_decided (book M.lines) w ≡ true → ⊥
                undecided decided =
                    let c = decided_in M.lines right w decided in
                    let z = as_said M.lines c.0 (S.action (f.act w)) (ends w c.0 c.1 c.2 (top_action (f.act w) top_w.2)) in
                    cc (sym top_w.3 ∙ z.done c.3)

                some : (o : Option Intent) → at_uid w (let d = n.disk in d.intents) ≡ o → is_some o ≡ true → ⊥
                some None at there = cc there
                some (Some i) at there =
                    let r : IsRooted begun w i = (let z = records u.node n was.1.1 in let y = z.disk in y.each w i at) in
                    let root_a : root_of a.path ≡ i.root = ap first_uid (sym (whole.agree a known) ∙ ap f.paths of)
                    ∙ whole.alike.units u w (sym unit) ∙ ap first_uid (ap f.paths (sym r.2) ∙ whole.agree r.0 r.1) ∙ r.3 in
                    let other : i.root ≢ w = λ same.
                    apart (sym (top_self (f.act u) top_u.0) ∙ above_is (f.act u) (f.act w) top_w.2 (subst (λ z. on (f.act z) (f.act w)
                    ≡ true) of (unit_is a w known (subst (λ z. is_on (uids_of a.path) z ≡ true) (root_a ∙ same) (root_on a.path))))) in
                    let gone = knows.down u.node n was.1.1 dead w i at other undecided u s.node refl told_it part a known of root_a in
                    let sane : Sane (book M.lines) = sane_lines new_book M.lines right sane_new in
                    let c = act_there (model.acts M.lines) u
                    (ap (λ xs. has_act xs u) (sym (its_acts M.lines right)) ∙ sane.aborted u gone) in
                    let e = ends u c.0 (in_to c.0 (model.acts M.lines) c.1) c.2 (top_action (f.act u) top_u.0) in
                    let done = (e.only top_u.1).0 in
                    let k = is_book M.lines right in
                    never gone (sane.kept u
                    (ap (is_decided (book M.lines)) (sym c.2) ∙ sym (k.decided c.0 (in_to c.0 (model.acts M.lines) c.1)) ∙ done))

    pub nobody_asked : ⊥
    nobody_asked = by n.live refl memory
      where
        by : (o : Option Parts) → n.live ≡ o → SeesMemory (view_of f x begun u.node) S n.disk o → ⊥
        by None dead m = down_now dead m
        by (Some t) live m = up_now t live m

  -- the server didn't vote for it
  pub unvoted : AcksAreKnown true begun (world_at s) → (u : Uid) → IsToldAbort s u → IsCommittedTop (case_of f x begun S) u →
      (IsUnitOver (case_of f x begun S) u → ⊥) → is_on (let v = server_at s in v.voted) u ≡ false
  unvoted acks u told top_u open_unit = false_from_ne_true (is_on (let v = server_at s in v.voted) u)
      (λ on. let k = acks.nodes s.node (record { number = s.node; disk = s.disk; live = Some s.parts }) here s.parts refl in
      nobody_asked u told top_u open_unit (voter_part M.sent u s.node (let v = server_at s in v.inc) (k.voted u on)))

  -- nor did naming confirm it
  pub unconfirmed : (n : Naming) (u : Uid) → (let t = s.parts in t.naming) ≡ Some n → IsToldAbort s u → is_on n.told u ≡ false →
      IsCommittedTop (case_of f x begun S) u → (IsUnitOver (case_of f x begun S) u → ⊥) → IsConfirmedNow (case_of f x begun S) u → ⊥
  unconfirmed n u is told new top_u open_unit now = nobody_asked u told top_u open_unit asked
    where
      m : SeesUp (view_of f x begun s.node) S s.disk s.parts
      m = let r = seen.sees in r.nodes s.node (record { number = s.node; disk = s.disk; live = Some s.parts }) here

      names : SeesNaming (view_of f x begun s.node) n S
      names = subst (SeesNamingIn (view_of f x begun s.node) S) is m.naming

      on_it : is_on n.confirmed u ≡ true
      on_it = ⊎_elim (λ on. on) (λ late. never late new) (names.confirmed u now)

      has : HasConfirm f x S M.sent u
      has = let r = seen.sees in
          (r.confirms s.node (record { number = s.node; disk = s.disk; live = Some s.parts }) here).0 u (inr (s.parts, n, refl, is, on_it))

      first_node : s.node ≡ 1
      first_node = eqb-true s.node 1 (sym m.place ∙ ap (λ (o : Option Naming). is_some o) is)

      asked : IsPartAsked M.sent u s.node
      asked = record {
        post = has.post;
        head = has.head;
        ask = ask.Confirm has.grants has.excluded has.included;
        there = has.there;
        to_it = knows.confirms has.post has.head (ask.Confirm has.grants has.excluded has.included) has.there has.is refl ∙ sym first_node;
        is = has.is;
        part = refl;
        by = sym (own_top x begun (world_at s) seen.good parted has.post has.head has.grants has.excluded has.included has.there has.is)
            ∙ has.top;
      }
