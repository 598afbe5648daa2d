-- A server that is told of ends goes in the machine.
use Rattle.arj_law_parts.proofs.Words
use Words.{◌≡◌, ◌≢◌, ◌≤◌, ◌∙◌, ◌&&◌, not, ℕ, List, [], ◌∷◌, Bool, true, false, cond, Option, Some, None, refl, sym, ap, subst, inl, inr}
use Words.{⊎_elim, Contains, arith, AllByRecursion, is_some, or_parts, uid_same, in_from, in_map, in_to, End, Row, Uid, is_on, last_uid}
use Words.{uid_eq, Copy, Over, end_copy, Did, did_nothing, at_number, at_uid, binding_number, drop_uid, each, put_uid, Server, apply_ends}
use Words.{end_new, end_one, is_told, is_top}
use Words.list
use Words.ending
use Rattle.arj_law_lock_view.proofs.Terms
use Terms.{taken_end, Act, In, Root, Sub, on, Guard, stay, State, DropRows, differ, IsLowest, Paths, has_end_of, drop_on, put_other}
use Terms.{put_same, without_cases, without_other, at_each, each_at, Acts, AreAlike, IsAlone, IsCommitting, IsRightBelow, MayUndo, OnlyEnds}
use Terms.{SeesCopy, Goes, SeesObject, last_of, AreBrought, AreOneTree, Family, IsCommittedSo, IsOfFamily, Sees, ShowsEnd, View}
use Terms.machine
use Rattle.arj_law_lock_view.proofs.view
use view.{RunSteps.goes_then, RunSteps.goes_to, UndoSteps.undoings_are_seen}
use view.CommitSteps.{foldings_are_seen, retainings_are_seen, settlings_are_seen}
use view.LeftSteps.{ends_both, ends_none, ends_sent, shows_later, undo_later}
use view.PlaceSteps.{Stood, alone, constituent, nested, nested_no_top, stood}
use Rattle.arj_law_lock_view.specs.view.{Copies.IsTold, Telling.EndsAreTaken, Telling.ShowEnds}
use Rattle.arj_law_parts.proofs.parts
use parts.GoodServers.{good_end_one, told_ends}
use parts.InTurn.{in_turn, knows_told, told_stays}
use parts.ServerRuns.{end_binding, one_follows}
use Rattle.arj_law_parts.specs.parts.{Copies.IsGoodCopy, Servers.AreInTurn, Servers.AreOrdered, Servers.IsInTurn}
use Rattle.arj_law_lock.specs.machine.Actions as path

-- ---- paths at a good copy

-- each holder's path stands in the machine as it does there
pub told_of : (act : Acts) (paths : Paths) (x : ℕ) (c : Copy) → AreAlike act paths → IsGoodCopy paths x c → (u : Uid) → IsTold act u c
told_of act paths x c alike good u = record {
  overs = overs c.stack (λ o i. i);
  rows = rows c.rows (λ r i. i);
}
  where
    overs : (os : List Over) → ((o : Over) → list.In o os → list.In o c.stack) →
        AllByRecursion (λ (o : Over). is_on o.holder u ≡ on (act (last_uid o.holder)) (act u)) os
    overs [] there = tt
    overs (o ∷ os) there = (
      ap (λ us. is_on us u) (good.overs o (in_to o c.stack (there o (inl refl)))) ∙ sym (alike.above (last_uid o.holder) u),
      overs os (λ q i. there q (inr i)),
    )

    rows : (rs : List Row) → ((r : Row) → list.In r rs → list.In r c.rows) →
        AllByRecursion (λ (r : Row). is_on r.holder u ≡ true → on (act (last_uid r.holder)) (act u) ≡ true) rs
    rows [] there = tt
    rows (r ∷ rs) there = (
      (λ above. alike.above (last_uid r.holder) u ∙ ap (λ us. is_on us u) (sym (good.holders r (in_to r c.rows (there r (inl refl)))))
          ∙ above),
      rows rs (λ q i. there q (inr i)),
    )

-- ---- what is shown stays so

module _ (v : View) (whole : AreOneTree v.family) where
  abbrev g : Family
  g = v.family

  abbrev act : Acts
  act = g.act

  abbrev n : ℕ
  n = v.node

  shown_later : (S T : State) → OnlyEnds n S T → (u : Uid) (e : End) → ShowsEnd v S u e → ShowsEnd v T u e
  shown_later S T only u ending.Abort may = undo_later n (act u) S T only may
  shown_later S T only u ending.Commit so = subst (IsCommittedSo g u) (sym only.rest)
      (record { action = so.action; begun = so.begun; of = so.of; unserial = so.unserial; committed = so.committed; over = so.over })

  -- ---- one end that is new

  module _ (u : Uid) (s : Server) (S : State) (of : IsOfFamily g s) (fresh : is_told u s ≡ false) (sees : Sees v s S) where
    -- who wasn't told of after it is another one, and wasn't told of before
    untold : (e : End) (w : Uid) → is_told w (let d = end_new n u e s in d.part) ≡ false → (w ≢ u) × (is_told w s ≡ false)
    untold e w none = (other, ap is_some (sym (put_other w u e s.ends other)) ∙ none)
      where
        other : w ≢ u
        other same = differ (ap (λ (z : Uid). is_some (at_uid z (put_uid u e s.ends))) same ∙ ap is_some (put_same u e s.ends)) none

    -- the server after it, where its copy is seen
    after : (e : End) (T : State) → OnlyEnds n S T → SeesObject act v.code v.x s.inc (at_number v.x (each (λ y. end_copy u e) s.objects))
        (T.server n) T → Sees v (let d = end_new n u e s in d.part) T
    after e T only object = record {
      incarnation = (let k = only.keeps in k.incarnation ∙ sees.incarnation);
      object = object;
      latest = λ w none. (let o = untold e w none in let k = only.keeps in
          low (ap (λ (f : Act → ℕ). f (act w)) k.request) (ap last_of (without_other w u s.kept o.0)) (sees.latest w o.1));
      kept = λ w k d found wanted. (let f = without_cases w u k s.kept (let good = of.good in good.sorted) found in
          shows_later act v.code w k.req d S T (ends_sent only) k.answer (sees.kept w k d f.1 wanted));
      voted = λ w none off. (let o = untold e w none in let k = only.keeps in
          ap (λ (f : Act → Bool). f (act w)) k.voted ∙ sees.voted w o.1 (off_before w o.0 off));
    }
      where
        low : {i j k l : ℕ} → i ≡ j → k ≡ l → j ≤ l → i ≤ k
        low a b c = omega (arith, a, b, c)

        off_before : (w : Uid) → w ≢ u → is_on (drop_uid u s.voted) w ≡ false → is_on s.voted w ≡ false
        off_before w other off = by (is_on s.voted w) refl
          where
            by : (b : Bool) → is_on s.voted w ≡ b → b ≡ false
            by false is = refl
            by true is = absurd (differ (drop_on w u s.voted other is) off)

    -- where the copy goes, the server does
    ends_at : (e : End) → ((c : Copy) → at_number v.x s.objects ≡ Some c → SeesCopy act v.code v.x c (S.server n) →
        Goes S (λ T. SeesCopy act v.code v.x (end_copy u e c) (T.server n) × OnlyEnds n S T))
        → Goes S (λ T. Sees v (let d = end_new n u e s in d.part) T × OnlyEnds n S T)
    ends_at e goes = by (at_number v.x s.objects) refl
      where
        by : (o : Option Copy) → at_number v.x s.objects ≡ o → Goes S (λ T. Sees v (let d = end_new n u e s in d.part) T × OnlyEnds n S T)
        by None none = record {
          state = S;
          run = stay;
          holds = (
            after e S (ends_none n S) (subst (λ (f : Option Copy). SeesObject act v.code v.x s.inc f (S.server n) S)
                (sym (still (at_number v.x (each (λ y. end_copy u e) s.objects)) refl))
                (subst (λ (f : Option Copy). SeesObject act v.code v.x s.inc f (S.server n) S) none sees.object)),
            ends_none n S,
          );
        }
          where
            still : (o : Option Copy) → at_number v.x (each (λ y. end_copy u e) s.objects) ≡ o → o ≡ None
            still None is = refl
            still (Some d) is = let f = at_each (λ y. end_copy u e) v.x s.objects d is in
                let no_way : ◌≡◌ {A = Option Copy} None (Some f.0) = sym none ∙ f.1 in absurd (cc no_way)
        by (Some c) there =
            let has : SeesObject act v.code v.x s.inc (Some c) (S.server n) S = subst
            (λ (f : Option Copy). SeesObject act v.code v.x s.inc f (S.server n) S) there sees.object in
            goes_to (goes c there has.0) (λ T h. (
              after e T h.1 (subst (λ (f : Option Copy). SeesObject act v.code v.x s.inc f (T.server n) T)
                  (sym (each_at (λ y. end_copy u e) v.x s.objects c there)) (
                    h.0,
                    ends_sent h.1 (machine.Activated (binding_number (let d = end_copy u e c in d.binding)) s.inc)
                        (subst (λ (b : ℕ). In (machine.Activated b s.inc) S.net) (ap binding_number (sym (end_binding u e c))) has.1),
                  )),
              h.1,
            ))

    -- ---- an abort

    aborts : MayUndo n (act u) S → Goes S (λ T. Sees v (let d = end_new n u ending.Abort s in d.part) T × OnlyEnds n S T)
    aborts may = ends_at ending.Abort (λ c there copy.
        undoings_are_seen act v.code n v.x u c S (told_of act g.paths v.x c whole.alike (of.good.copies v.x c there) u) may copy)

    -- ---- a commit

    committing : (c : Copy) → at_number v.x s.objects ≡ Some c → IsLowest u c.rows → IsCommitting act g.paths v.x u c
    committing c there lowest = record {
      one = (let k = whole.alike in k.one);
      good = of.good.copies v.x c there;
      lowest = lowest;
      told = told_of act g.paths v.x c whole.alike (of.good.copies v.x c there) u;
    }

    commits : IsCommittedSo g u S → IsInTurn u ending.Commit s →
        Goes S (λ T. Sees v (let d = end_new n u (taken_end u ending.Commit s) s in d.part) T × OnlyEnds n S T)
    commits so turn = by (is_top u s) (is_on s.voted u) refl refl
      where
        standing : Stood g so.action S
        standing = stood g whole so.action so.begun so.unserial S (ap (λ (w : Uid). (let z = S.action (act w) in z.stage)) so.of
            ∙ so.committed) (λ plain. ap (λ (w : Uid). (let z = S.action (Root (path.root (act w))) in z.stage)) so.of ∙ so.over plain)

        lowest : (t d : Bool) → is_top u s ≡ t → is_on s.voted u ≡ d → cond (t && not d) ending.Abort ending.Commit ≡ ending.Commit →
            (c : Copy) → at_number v.x s.objects ≡ Some c → IsLowest u c.rows
        lowest t d top voted commit c there =
            turn fresh ((λ i. cond (top i && not (voted i)) ending.Abort ending.Commit) ∙ commit) v.x c there

        -- its rows and writes pass, or become the copy's own value
        keeps_on : Stood g so.action S → ((c : Copy) → at_number v.x s.objects ≡ Some c → IsLowest u c.rows) →
            Goes S (λ T. Sees v (let d = end_new n u ending.Commit s in d.part) T × OnlyEnds n S T)
        keeps_on (nested h nest under action) low = ends_at ending.Commit (λ c there copy. foldings_are_seen act v.code g.paths n v.x u h c
            S whole.tree (committing c there (low c there)) (subst (λ (w : Uid). IsRightBelow act g.paths w h S) so.of under) action copy)
        keeps_on (constituent h unit unlike under serial) low =
            ends_at ending.Commit (λ c there copy. retainings_are_seen act v.code g.paths n v.x u h unit c S
            (committing c there (low c there)) (subst (λ (w : Uid). IsRightBelow act g.paths w h S) so.of under) serial copy)
        keeps_on (alone unlike lone) low = ends_at ending.Commit (λ c there copy. settlings_are_seen act v.code g.paths n v.x u c S
            (committing c there (low c there)) (subst (λ (w : Uid). IsAlone act w S) so.of lone) copy)

        -- of a top that wasn't voted for the machine may drop the rows
        unvoted : path.is_top (act u) ≡ true → is_on s.voted u ≡ false → Guard (DropRows n (act u)) S
        unvoted top off = inr (inr (top, so.committed, sees.voted u fresh off))

        is_a_top : Stood g so.action S → is_top u s ≡ true → path.is_top (act u) ≡ true
        is_a_top (nested h nest under action) top =
            absurd (differ top (ap (λ (w : Uid). is_top w s) (sym so.of) ∙ nested_no_top g whole s of so.action so.begun nest))
        is_a_top (constituent h unit unlike under serial) top =
            ap (λ (w : Uid). path.is_top (act w)) (sym so.of) ∙ ap path.is_top (under.below ∙ ap (λ (a : Act). Sub a under.number) serial)
        is_a_top (alone unlike lone) top = ap (λ (w : Uid). path.is_top (act w)) (sym so.of) ∙ ap path.is_top lone.below

        by : (t d : Bool) → is_top u s ≡ t → is_on s.voted u ≡ d →
            Goes S (λ T. Sees v (let d = end_new n u (cond (t && not d) ending.Abort ending.Commit) s in d.part) T × OnlyEnds n S T)
        by true true top voted = keeps_on standing (lowest true true top voted refl)
        by false true top voted = keeps_on standing (lowest false true top voted refl)
        by false false top voted = keeps_on standing (lowest false false top voted refl)
        by true false top voted = aborts (inl (unvoted (is_a_top standing top) voted))

    -- ---- either

    ends_new : (e : End) → IsInTurn u e s → ShowsEnd v S u e →
        Goes S (λ T. Sees v (let d = end_new n u (taken_end u e s) s in d.part) T × OnlyEnds n S T)
    ends_new ending.Abort turn shown = aborts shown
    ends_new ending.Commit turn shown = commits shown turn

  -- ---- one end after another

  end_goes : (u : Uid) (e : End) (s : Server) (S : State) → IsOfFamily g s → IsInTurn u e s → (is_told u s ≡ false → ShowsEnd v S u e) →
      Sees v s S → Goes S (λ T. Sees v (let d = end_one n u e s in d.part) T × OnlyEnds n S T)
  end_goes u e s S of turn shown sees = by (is_told u s) refl
    where
      by : (b : Bool) → is_told u s ≡ b → Goes S
          (λ T. Sees v (let d = cond {A = Did Server} b (did_nothing s) (end_new n u (taken_end u e s) s) in d.part) T × OnlyEnds n S T)
      by true told = record { state = S; run = stay; holds = (sees, ends_none n S) }
      by false fresh = ends_new u s S of fresh sees e turn (shown fresh)

  -- each copy is still found by its number
  listed_after : (u : Uid) (e : End) (s : Server) → IsOfFamily g s → (y : ℕ) (c : Copy) → Contains {X = ℕ × Copy} (let d = end_one n u e
      s in let t = d.part in t.objects) (y, c) → at_number y (let d = end_one n u e s in let t = d.part in t.objects) ≡ Some c
  listed_after u e s of y c = by (is_told u s)
    where
      by : (b : Bool) → Contains {X = ℕ × Copy} (let d = cond {A = Did Server} b (did_nothing s) (end_new n u (taken_end u e s) s) in
          let t = d.part in t.objects) (y, c) → at_number y
          (let d = cond {A = Did Server} b (did_nothing s) (end_new n u (taken_end u e s) s) in let t = d.part in t.objects) ≡ Some c
      by true k = of.listed y c k
      by false k =
          let end : Copy → Copy = end_copy u (taken_end u e s) in
          let f = in_map {X = ℕ × Copy} {Y = ℕ × Copy} (λ z. (z.0, end z.1)) (y, c) s.objects
          (in_from {X = ℕ × Copy} (y, c) (each (λ z. end) s.objects) k) in
          subst (λ (z : ℕ × Copy). at_number z.0 (each (λ w. end) s.objects) ≡ Some z.1) f.2
          (each_at (λ w. end) f.0.0 s.objects f.0.1 (of.listed f.0.0 f.0.1 (in_to {X = ℕ × Copy} f.0 s.objects f.1)))

  family_after : (u : Uid) (e : End) (s : Server) → IsInTurn u e s → IsOfFamily g s → IsOfFamily g (let d = end_one n u e s in d.part)
  family_after u e s turn of = record {
    good = good_end_one g.paths whole.tree n u e s turn of.good;
    knows = knows_told g.begun whole.begun n ((u, e) ∷ []) s of.knows;
    listed = listed_after u e s of;
  }

  ends_go : (ends : List (Uid × End)) (s : Server) (S : State) → IsOfFamily g s → AreInTurn n ends s → ShowEnds v s S ends → Sees v s S →
      Goes S (λ T. Sees v (let d = apply_ends n ends s in d.part) T × OnlyEnds n S T)
  ends_go [] s S of turn shown sees = record { state = S; run = stay; holds = (sees, ends_none n S) }
  ends_go (e ∷ es) s S of turn shown sees =
      let d = end_one n e.0 e.1 s in
      goes_then (end_goes e.0 e.1 s S of turn.0 (shown e.0 e.1 (in_to {X = Uid × End} e (e ∷ es) (inl refl))) sees) (λ T h.
      goes_to (ends_go es d.part T (family_after e.0 e.1 s turn.0 of) turn.1 (rest T h.1) h.0) (λ V k. (k.0, ends_both h.1 k.1)))
    where
      rest : (T : State) → OnlyEnds n S T → ShowEnds v (let d = end_one n e.0 e.1 s in d.part) T es
      rest T only u f k fresh = shown_later S T only u f
          (shown u f (in_to {X = Uid × End} (u, f) (e ∷ es) (inr (in_from {X = Uid × End} (u, f) es k))) (before (is_told u s) refl))
        where
          before : (b : Bool) → is_told u s ≡ b → b ≡ false
          before false is = refl
          before true is = absurd (differ (told_stays s (let d = end_one n e.0 e.1 s in d.part) (one_follows n e.0 e.1 s) u is) fresh)

-- what is known of the server after the list
pub family_told : (v : View) (ends : List (Uid × End)) (s : Server) → AreOneTree v.family → AreInTurn v.node ends s →
    IsOfFamily v.family s → IsOfFamily v.family (let d = apply_ends v.node ends s in d.part)
family_told v [] s whole turn of = of
family_told v (e ∷ es) s whole turn of = let d = end_one v.node e.0 e.1 s in
    family_told v es d.part whole turn.1 (family_after v whole e.0 e.1 s turn.0 of)

-- each copy has its binding
pub copy_told : (n : ℕ) (ends : List (Uid × End)) (s : Server) (x : ℕ) (c : Copy) → at_number x s.objects ≡ Some c →
    (d : Copy) × (at_number x (let k = apply_ends n ends s in let t = k.part in t.objects) ≡ Some d) × (d.binding ≡ c.binding)
copy_told n [] s x c there = (c, there, refl)
copy_told n (e ∷ es) s x c there =
    by (is_told e.0 s) (λ d at same. (let k = end_one n e.0 e.1 s in let f = copy_told n es k.part x d at in (f.0, f.1, f.2 ∙ same)))
  where
    Found : Type 0
    Found = (d : Copy) × (at_number x (let k = apply_ends n (e ∷ es) s in let t = k.part in t.objects) ≡ Some d) × (d.binding ≡ c.binding)

    by : (b : Bool) → ((d : Copy) → at_number x (let k = cond {A = Did Server} b (did_nothing s) (end_new n e.0 (taken_end e.0 e.1 s) s) in
        let t = k.part in t.objects) ≡ Some d → d.binding ≡ c.binding → Found) → Found
    by true found = found c there refl
    by false found = found (end_copy e.0 (taken_end e.0 e.1 s) c) (each_at (λ y. end_copy e.0 (taken_end e.0 e.1 s)) x s.objects c there)
        (end_binding e.0 (taken_end e.0 e.1 s) c)

-- who isn't in it has the same last answer
pub kept_told : (n : ℕ) (ends : List (Uid × End)) (s : Server) (u : Uid) → has_end_of u ends ≡ false →
    at_uid u (let k = apply_ends n ends s in let t = k.part in t.kept) ≡ at_uid u s.kept
kept_told n [] s u none = refl
kept_told n (e ∷ es) s u none =
    (let k = end_one n e.0 e.1 s in kept_told n es k.part u (or_parts (uid_eq e.0 u) (has_end_of u es) none).1) ∙ by (is_told e.0 s)
  where
    other : u ≢ e.0
    other same = differ (ap (λ (w : Uid). uid_eq w u) (sym same) ∙ uid_same u) (or_parts (uid_eq e.0 u) (has_end_of u es) none).0

    by : (b : Bool) → at_uid u (let k = cond {A = Did Server} b (did_nothing s) (end_new n e.0 (taken_end e.0 e.1 s) s) in
        let t = k.part in t.kept) ≡ at_uid u s.kept
    by true = refl
    by false = without_other u e.0 s.kept other

-- and wasn't told of
pub untold_after : (n : ℕ) (ends : List (Uid × End)) (s : Server) (u : Uid) → is_told u s ≡ false → has_end_of u ends ≡ false →
    is_told u (let k = apply_ends n ends s in k.part) ≡ false
untold_after n ends s u fresh none = by (is_told u (let k = apply_ends n ends s in k.part)) refl
  where
    by : (b : Bool) → is_told u (let k = apply_ends n ends s in k.part) ≡ b → b ≡ false
    by false is = refl
    by true is = absurd (⊎_elim (λ old. differ old fresh) (λ new. differ new none) (told_ends n ends s u is))

-- a coordinator's list comes in turn
pub turn_of : (v : View) (ends : List (Uid × End)) (s : Server) → AreOneTree v.family → IsOfFamily v.family s →
    AreOrdered v.family.begun [] ends → AreInTurn v.node ends s
turn_of v ends s whole of ordered =
    in_turn v.family.begun whole.begun v.family.paths whole.tree v.node [] ends s ordered (λ w none. absurd (cc none)) of.good of.knows

pub brought_go : (v : View) (ends : List (Uid × End)) (s : Server) (S : State) → AreBrought v ends s S → Sees v s S →
    Goes S (λ T. Sees v (let d = apply_ends v.node ends s in d.part) T × OnlyEnds v.node S T)
brought_go v ends s S b sees = ends_go v b.whole ends s S b.server (turn_of v ends s b.whole b.server b.ordered) b.shown sees

pub ends_are_taken : EndsAreTaken
ends_are_taken v ends s S b sees = brought_go v ends s S b sees
