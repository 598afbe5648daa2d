-- What goes by what commits use, and by the machine's decisions, is kept beside what is carried by each handler, where each step of the
-- machine keeps it.
use Rattle.arj_law_parts.proofs.Words
use Words.{IsFormed, Start, world_from}
use Words.{◌≡◌, ◌≢◌, ◌⊎◌, ◌∙◌, ◌+◌, ℕ, true, false, List, [], Option, Some, None, ap, eq-eqb, inl, inr, refl, subst, sym, Body, Header}
use Words.{Kind, Label, Uid, actor, again_all, begin_action, last_req, Used, doing_of, plan_for, root_at, Disk, Effect, tick_outs, Parts}
use Words.{with_coord, uid_number, Input, acts, branch_named, parent_of, parts_in, refusal_up, restart_outs, Branch, root_of}
use Words.{numbered, Seen, see, is_serial}
use Words.input
use Rattle.arj_law_serial.proofs.Terms
use Terms.{World, Office, decided, undecided, is_act, at, down, given, said, up, Up, Walks, halted, walks_both, walks_to, KnowsNode, Kinds}
use Terms.{node_here, OnlyFound, SeesBoth, Changes, Quietly, change_by, KeepsPart, are_recorded, quietly, who_decides, restart_plain}
use Terms.{IsKept, IsNear, IsStep, near_same, nothing_more, step_halted, step_walk, AreAt, IsRecordedAt}
use Terms.Effects as machine
use Rattle.arj_law_lock_view.proofs.facts.CommitCoords.{at_again, at_begins}
use Rattle.arj_law_serial.proofs.joint
use joint.{Ending.ends_of, Ending.message_ends, JoinFresh.not_some, JoinUses.UsesSo}
use joint.JoinNodes.{IsFound, acts_use, found_opened, grown_by, along_grown, message_uses, none_at, opened, recorded_in}
use joint.JoinStep.{EachUp, IsGrown, others_up, ups_at, ups_walk}
use joint.JoinTurns.{IsFurther, further_answers, further_by, further_found}
use joint.Recording.{AreOfTheirs, AreRecordedBy, IsConfirming, acts_put, anyone, here_then, message_puts, others_then, plainly, recorded_at}
use joint.Recording.{records_walk, tick_puts}

-- no top at all
abbrev pub none : Uid → Type 0
none u = ⊥

-- it holds of each commit under way, at each node that is up
abbrev pub EachCommit : (Uid → List Used → Type 0) → Seen → Type 0
EachCommit Q M = EachUp (λ t. AreAt (UsesSo Q) t.coord) M

-- What is kept: a relation of the carried state, what it says of commits by what they use, and of those that wait for naming, where these
-- tops may be decided.
pub record Keeping : Type 1 where
  pub kept : Kinds → Office → Seen → Type 0
  pub uses : Kinds → Office → Seen → (Uid → Type 0) → Uid → List Used → Type 0
  pub waits : Kinds → Office → Seen → (Uid → Type 0) → Uid → Type 0

-- A step from a state to another one: how the machine has gone on, who may be decided, and that these have a record, or wait for naming
-- here.
pub record Goes (x : ℕ) (D : Office → Type 0) (C Cand : Uid → Type 0) (A : Office) (M : Seen) : Type 0 where
  pub further : (B : Office) → D B → IsFurther A B
  pub grown : (B : Office) → D B → IsGrown Cand A.world B.world
  pub opened : (w : Uid) → Cand w → undecided A.world.disk (uid_number w) ≡ true
  pub cand : (w : Uid) → Cand w → IsRecordedAt M w ⊎ C w

module _ (hd : Header) (x : ℕ) (R : World → Seen → Type 0) (P : Kinds → Office → Seen → Type 0) (T : Keeping) where
  -- what holds of a node that is up
  pub record IsHere (k : ℕ) (d : Disk) (t : Parts) (M : Seen) (tops : Kinds) (A : Office) : Type 0 where
    pub knows : KnowsNode tops k d t M
    pub both : SeesBoth x tops A (up k d t M)
    pub part : P tops A (up k d t M)
    pub run : R A.world (up k d t M)
    pub before : T.kept tops A (up k d t M)

  -- by each of these commits under way are known
  abbrev pub Ups : Kinds → Office → Seen → (Uid → Type 0) → Seen → Type 0
  Ups tops A M Cand Z = EachCommit (T.uses tops A M Cand) Z

  -- so they are where nobody is newly decided
  abbrev pub WhereNone : Type 0
  WhereNone = (tops : Kinds) (A : Office) (M : Seen) → SeesBoth x tops A M → P tops A M → R A.world M → T.kept tops A M →
      Ups tops A M none M

  -- and where one that waits for naming may be, by a message
  abbrev pub WhereHeard : Type 0
  WhereHeard = (k : ℕ) (d : Disk) (t : Parts) (M : Seen) (tops : Kinds) (A : Office) → IsHere k d t M tops A →
      Ups tops A (up k d t M) (λ u. IsConfirming t.coord u) (up k d t M)

  -- and where a restart finds records
  abbrev pub WhereFound : Type 0
  WhereFound = (k : ℕ) (d : Disk) (M : Seen) (tops : Kinds) (A : Office) → SeesBoth x tops A (down k d M) → P tops A (down k d M) →
      R A.world (down k d M) → T.kept tops A (down k d M) → Ups tops A (down k d M) (IsFound d A) (down k d M)

  -- and of one that is called
  abbrev pub WhereCalled : Type 0
  WhereCalled = (k : ℕ) (d : Disk) (t : Parts) (M : Seen) (tops : Kinds) (A : Office) → IsHere k d t M tops A → (i : Input) →
      refusal_up hd i t.coord ≡ None → (l : Label) (b : Branch) → i ≡ input.Commit l → branch_named l t.coord ≡ Some b
      → T.uses tops A (up k d t M) none (actor b.path)
      (let p = plan_for b.path (last_req (doing_of (actor b.path) t.coord)) (root_at (root_of b.path) t.coord) t.coord in p.used)

  -- those that wait for naming
  abbrev pub WhereWaits : Type 1
  WhereWaits = (k : ℕ) (d : Disk) (t : Parts) (M : Seen) (tops : Kinds) (A : Office) → IsHere k d t M tops A → (Cand : Uid → Type 0) →
      Ups tops A (up k d t M) Cand (up k d t M) → (u : Uid) → IsConfirming t.coord u → T.waits tops A (up k d t M) Cand u

  -- a step keeps it
  abbrev pub StepsKeep : Type 1
  StepsKeep = (tops : Kinds) (D : Office → Type 0) (C Cand : Uid → Type 0) (A : Office) (M : Seen) → SeesBoth x tops A M → P tops A M →
      R A.world M → Goes x D C Cand A M → T.kept tops A M → ((u : Uid) → C u → T.waits tops A M Cand u)
      → (B : Office) → D B → (Z : Seen) → SeesBoth x tops B Z → P tops B Z → IsStep M Z → Ups tops A M Cand Z → AreRecordedBy C M Z →
      T.kept tops B Z

  -- nothing is decided yet
  abbrev pub WhereFirst : Type 0
  WhereFirst = (st : Start) → IsFormed hd st → (tops : Kinds) (A : Office) → SeesBoth x tops A (see [] (world_from hd st)) →
      (let W = A.world in let S = W.disk in S.tops) ≡ [] → T.kept tops A (see [] (world_from hd st))

-- ---- each handler

module _ (hd : Header) (x : ℕ) (R : World → Seen → Type 0) (P : Kinds → Office → Seen →
    Type 0) (T : Keeping) (known : (W : World) (M : Seen) → R W M → IsKept M) (parts : KeepsPart hd x R P)
    (where_none : WhereNone hd x R P T) (where_heard : WhereHeard hd x R P T) (where_found : WhereFound hd x R P T)
    (where_called : WhereCalled hd x R P T) (where_waits : WhereWaits hd x R P T) (steps_keep : StepsKeep hd x R P T)
    (where_first : WhereFirst hd x R P T) where
  -- beside what is carried with the machine's state
  abbrev pub Beside : Kinds → Office → Seen → Type 0
  Beside tops A M = P tops A M × T.kept tops A M

  abbrev OfEach : Kinds → (Office → Type 0) → (Kinds → Office → Seen → Type 0) → Seen → Type 0
  OfEach tops D O Z = (B : Office) → D B → SeesBoth x tops B Z → O tops B Z

  module _ (tops : Kinds) (D : Office → Type 0) (C Cand : Uid → Type 0) (A : Office) (M : Seen) (both : SeesBoth x tops A M)
      (part_now : P tops A M) (run : R A.world M) (goes : Goes x D C Cand A M) (before : T.kept tops A M) (waiting : (u : Uid) → C u →
      T.waits tops A M Cand u) where
    abbrev Y : Seen → Type 0
    Y = Ups hd x R P T tops A M Cand

    next : (Z : Seen) → OfEach tops D P Z → Y Z → AreRecordedBy C M Z → IsStep M Z → OfEach tops D Beside Z
    next Z part ups recs step B into seen = let p = part B into seen in
        (p, steps_keep tops D C Cand A M both part_now run goes before waiting B into Z seen p step ups recs)

    along : (e k : ℕ) (outs : List Effect) (v : Parts) (d : Disk) (N : Seen) →
        Walks (OfEach tops D P) e k outs (Up (OfEach tops D P) k v) d N → Walks Y e k outs (Up Y k v) d N
        → Walks (AreRecordedBy C M) e k outs (Up (AreRecordedBy C M) k v) d N → Walks (IsStep M) e k outs (Up (IsStep M) k v) d N →
        Walks (OfEach tops D Beside) e k outs (Up (OfEach tops D Beside) k v) d N
    along e k outs v d N w ups recs steps =
        let two = walks_both (AreRecordedBy C M) (IsStep M) e k outs (Up (AreRecordedBy C M) k v) (Up (IsStep M) k v) d N recs steps in
        let three = walks_both Y (λ Z. AreRecordedBy C M Z × IsStep M Z) e k outs (Up Y k v)
        (λ c Z. Up (AreRecordedBy C M) k v c Z × Up (IsStep M) k v c Z) d N ups two in
        let four = walks_both (OfEach tops D P) (λ Z. Y Z × (AreRecordedBy C M Z × IsStep M Z)) e k outs (Up (OfEach tops D P) k v)
        (λ c Z. Up Y k v c Z × (Up (AreRecordedBy C M) k v c Z × Up (IsStep M) k v c Z)) d N w three in
        walks_to (λ Z. OfEach tops D P Z × (Y Z × (AreRecordedBy C M Z × IsStep M Z))) (OfEach tops D Beside) e k outs
        (λ c Z. Up (OfEach tops D P) k v c Z × (Up Y k v c Z × (Up (AreRecordedBy C M) k v c Z × Up (IsStep M) k v c Z)))
        (Up (OfEach tops D Beside) k v) d N
        (λ Z h. next Z h.0 h.1.0 h.1.1.0 h.1.1.1) (λ c Z h. next (up k c v Z) h.0 h.1.0 h.1.1.0 h.1.1.1) four

  whole : (tops : Kinds) (A : Office) (M : Seen) → SeesBoth x tops A M → machine.Whole A.world
  whole tops A M both = let n = both.named in n.whole

  -- nobody is newly decided
  calmly : (D : Office → Type 0) (C : Uid → Type 0) (A : Office) (M : Seen) → ((B : Office) → D B → IsFurther A B) →
      ((B : Office) → D B → IsGrown none A.world B.world) → Goes x D C none A M
  calmly D C A M further grown = record { further = further; grown = grown; opened = λ w off. absurd off; cand = λ w off. absurd off }

  quiet_goes : (tops : Kinds) (C : Uid → Type 0) (A : Office) (M : Seen) → SeesBoth x tops A M → Goes x (Changes Quietly A) C none A M
  quiet_goes tops C A M both = calmly (Changes Quietly A) C A M (λ B c. further_by Quietly A B (whole tops A M both) c)
      (λ B c. grown_by none Quietly A B (λ z keeps is. quietly z keeps is) c)

  -- what a node that is up had under way
  mine : (k : ℕ) (d : Disk) (t : Parts) (M : Seen) (Q : Uid → List Used → Type 0) → EachCommit Q (up k d t M) → AreAt (UsesSo Q) t.coord
  mine k d t M Q each =
      each k (record { number = k; disk = d; live = Some t }) t (node_here M k (record { number = k; disk = d; live = Some t })) refl

  theirs : (tops : Kinds) (k : ℕ) (d : Disk) (t : Parts) (M : Seen) → KnowsNode tops k d t M → AreOfTheirs t.coord
  theirs tops k d t M n u q m works now =
      (let z = n.coord in let y = z.machines u q m works now in ((let p = y.plan in p.actor_is), (y.used, y.more, y.uses)))

  pub beside_part : KeepsPart hd x R Beside
  beside_part = record {
    quiet = λ tops e bs M A walk quiet r both (part, before).
        next tops (Changes Quietly A) none none A M both part r (quiet_goes tops none A M both) before (λ u off. absurd off) (said e bs M)
        (parts.quiet tops e bs M A walk quiet r both part) (where_none tops A M both part r before)
        (λ u c. inl (record { place = c.place; node = c.node; intent = c.intent; here = c.here; there = c.there })) (quiet_step e bs M);
    stop = λ tops e k d live M A walk r both (part, before).
        let M0 = at k d live M in
        let Y0 : Parts → Type 0 = λ t. AreAt (UsesSo (T.uses tops A M0 none)) t.coord in
        next tops (Changes Quietly A) none none A M0 both part r (quiet_goes tops none A M0 both) before (λ u off. absurd off)
        (halted e k d M)
        (parts.stop tops e k d live M A walk r both part) (ups_at Y0 k d None M (halted e k d M) (λ j. refl) (others_up Y0 k d live M
        (where_none tops A M0 both part r before)) (λ t is. not_some refl is)) (recorded_at none M0 k d None M (halted e k d M) (λ i.
        refl) (others_then none k d live M) (here_then none k d live M)) (step_halted k d live M e d M (near_same M) (λ down. refl));
    message = λ tops e k d t v from m outs M A walk n r sent meant is of own both (part, before).
        let p = parts.message tops e k d t v from m outs M A walk n r sent meant is of own both part in
        let h = p.0 in
        let o = change_by x d t m in
        let M0 = up k d t M in
        let C : Uid → Type 0 = λ u. IsConfirming t.coord u in
        let Q0 : Uid → List Used → Type 0 = T.uses tops A M0 C in
        let Y0 : Parts → Type 0 = λ t. AreAt (UsesSo Q0) t.coord in
        let h0 : IsHere hd x R P T k d t M tops A = record { knows = n; both = both; part = part; run = r; before = before } in
        let each : EachCommit Q0 M0 = where_heard k d t M tops A h0 in (
          record {
            office = h.office;
            only = h.only;
            both = h.both;
            along = along tops (Changes o h.office) C C A M0 both part r
                (record {
                  further = λ B c. further_answers A h.office B h.only (further_by o h.office B (whole tops h.office M0 h.both) c);
                  grown = λ B c. subst (λ W. IsGrown C W B.world) (let z = h.only in
                      z.world) (grown_by C o h.office B (λ z keeps by. let w = who_decides x d t m z keeps by in (
                        w.top,
                        message_ends x d t w.top m (ap (λ y. ends_of y (uid_number w.top)) by ∙ eq-eqb (uid_number w.top) z w.number),
                        w.number,
                      )) c);
                  opened = λ w c. opened x k d t M tops A n both (known A.world M0 r) w c;
                  cand = λ w c. inr c;
                })
                before (where_waits k d t M tops A h0 C each) e k outs v d M h.along
                (ups_walk Y0 k e v (message_uses Q0 k d t v from m outs is (mine k d t M Q0 each)) outs d M
                (others_up Y0 k d (Some t) M each))
                (records_walk C M0 k anyone e v outs d M (others_then C k d (Some t) M)
                (message_puts anyone k d t (theirs tops k d t M n) from m v outs is (λ u same. tt)) (here_then C k d (Some t) M))
                (step_walk k d (Some t) M e v outs d M (near_same M) (was_up t) (was_up t));
          },
          p.1,
          p.2,
        );
    act = λ tops e k d t i M A walk n r is free both (part, before).
        let did = acts i d.intents t.coord in
        let p = parts.act tops e k d t i M A walk n r is free both part in
        let h = p.0 in
        let M0 = up k d t M in
        let C : Uid → Type 0 = λ u. IsConfirming t.coord u in
        let Q0 : Uid → List Used → Type 0 = T.uses tops A M0 none in
        let Y0 : Parts → Type 0 = λ t. AreAt (UsesSo Q0) t.coord in
        let h0 : IsHere hd x R P T k d t M tops A = record { knows = n; both = both; part = part; run = r; before = before } in
        let each : EachCommit Q0 M0 = where_none tops A M0 both part r before in (
          record {
            office = h.office;
            only = h.only;
            both = h.both;
            along = along tops (Changes Quietly h.office) C none A M0 both part r
                (calmly (Changes Quietly h.office) C A M0
                (λ B c. further_answers A h.office B h.only (further_by Quietly h.office B (whole tops h.office M0 h.both) c))
                (λ B c. subst (λ W. IsGrown none W B.world) (let z = h.only in
                z.world) (grown_by none Quietly h.office B (λ z keeps by. quietly z keeps by) c)))
                before (where_waits k d t M tops A h0 none each) e k did.outs (with_coord t did.part) d M h.along
                (ups_walk Y0 k e (with_coord t did.part) (acts_use Q0 t.coord i d.intents (other i is)
                (where_called k d t M tops A h0 i free) (mine k d t M Q0 each)) did.outs d M (others_up Y0 k d (Some t) M each))
                (records_walk C M0 k anyone e (with_coord t did.part) did.outs d M (others_then C k d (Some t) M)
                (acts_put anyone t.coord (theirs tops k d t M n) d.intents i) (here_then C k d (Some t) M))
                (step_walk k d (Some t) M e (with_coord t did.part) did.outs d M (near_same M) (was_up t) (was_up t));
          },
          p.1,
        );
    begin = λ tops e k d t l how parent M A walk n r new may free kind both (part, before).
        let did = begin_action l how parent (parent_of parent t.coord) t.coord in
        let N : Seen = given l (record { node = k; serial = is_serial how }) M in
        let M0 = up k d t M in
        let Q0 : Uid → List Used → Type 0 = T.uses tops A M0 none in
        let Y0 : Parts → Type 0 = λ t. AreAt (UsesSo Q0) t.coord in
        let each : EachCommit Q0 M0 = where_none tops A M0 both part r before in
        along tops (Changes Quietly A) none none A M0 both part r (quiet_goes tops none A M0 both) before (λ u off. absurd off) e k did.outs
        (with_coord t did.part) d N
        (parts.begin tops e k d t l how parent M A walk n r new may free kind both part)
        (ups_walk Y0 k e (with_coord t did.part) (at_begins (UsesSo Q0) t.coord (mine k d t M Q0 each) l how parent) did.outs d N
        (others_up Y0 k d (Some t) M each))
        (records_walk none M0 k anyone e (with_coord t did.part) did.outs d N (others_then none k d (Some t) M) (tt, tt) (here_then none k d
        (Some t) M)) (step_walk k d (Some t) M e (with_coord t did.part) did.outs d N (given_near l how k M) (was_up t) (was_up t));
    tick = λ tops e k d t M A walk n r both (part, before).
        let outs = tick_outs (record { number = k; disk = d; live = Some t }) t in
        let v = with_coord t (let z = again_all t.coord.doings t.coord in z.part) in
        let M0 = up k d t M in
        let C : Uid → Type 0 = λ u. IsConfirming t.coord u in
        let Q0 : Uid → List Used → Type 0 = T.uses tops A M0 none in
        let Y0 : Parts → Type 0 = λ t. AreAt (UsesSo Q0) t.coord in
        let h0 : IsHere hd x R P T k d t M tops A = record { knows = n; both = both; part = part; run = r; before = before } in
        let each : EachCommit Q0 M0 = where_none tops A M0 both part r before in
        along tops (Changes Quietly A) C none A M0 both part r (quiet_goes tops C A M0 both) before
        (where_waits k d t M tops A h0 none each) e k outs v d M
        (parts.tick tops e k d t M A walk n r both part)
        (ups_walk Y0 k e v (at_again (UsesSo Q0) t.coord.doings t.coord (mine k d t M Q0 each)) outs d M (others_up Y0 k d (Some t) M each))
        (records_walk C M0 k anyone e v outs d M (others_then C k d (Some t) M) (tick_puts anyone k d t (theirs tops k d t M n))
        (here_then C k d (Some t) M)) (step_walk k d (Some t) M e v outs d M (near_same M) (was_up t) (was_up t));
    restart = λ tops e k d M A walk r both (part, before).
        let outs = restart_outs hd k (d.inc + 1) d in
        let v = parts_in k (d.inc + 1) d in
        let M0 = down k d M in
        let Cand : Uid → Type 0 = IsFound d A in
        let Q0 : Uid → List Used → Type 0 = T.uses tops A M0 Cand in
        let Y0 : Parts → Type 0 = λ t. AreAt (UsesSo Q0) t.coord in
        let each : EachCommit Q0 M0 = where_found k d M tops A both part r before in
        along tops (OnlyFound (are_recorded d.intents) A) none Cand A M0 both part r
        (record {
          further = λ B c. further_found (are_recorded d.intents) A B (whole tops A M0 both) c;
          grown = λ B c. along_grown Cand (are_recorded d.intents) A.world B.world (λ z on undone. let w = recorded_in d.intents z on in
              (w.0, (w.1, w.2, ap (λ y. decided A.world.disk y) w.3 ∙ undone), w.3)) c.along;
          opened = λ w c. found_opened x k d M tops A both w c;
          cand = λ w c. inl (record {
            place = k;
            node = record { number = k; disk = d; live = None };
            intent = c.0;
            here = node_here M k (record { number = k; disk = d; live = None });
            there = c.1;
          });
        })
        before (λ u off. absurd off) e k outs v d M
        (parts.restart tops e k d M A walk r both part)
        (ups_walk Y0 k e v (none_at (UsesSo Q0) k (d.inc + 1) d) outs d M (others_up Y0 k d None M each))
        (records_walk none M0 k anyone e v outs d M (others_then none k d None M) (plainly none anyone outs (restart_plain [] hd k d))
        (here_then none k d None M)) (step_walk k d None M e v outs d M (near_same M) (λ down. restart_plain [] hd k d) (λ down. refl));
    first = λ tops walk kinds st formed. let f = parts.first tops walk kinds st formed in
        (f.0, f.1, (f.2, where_first st formed tops f.0 f.1 f.3), f.3, f.4);
  }
    where
      other : (i : Input) → is_act i ≡ true → (l : Label) (how : Kind) (parent : Option Label) → i ≢ input.Begin l how parent
      other i is l how parent same = let no_way : false ≡ true = sym (ap is_act same) ∙ is in cc no_way

      quiet_step : (e : ℕ) (bs : List Body) (M : Seen) → IsStep M (said e bs M)
      quiet_step e bs M = record { more = numbered e bs; lines = refl; nodes = λ j n is. (n, is, λ down. refl) }

      given_near : (l : Label) (how : Kind) (k : ℕ) (M : Seen) → IsNear M (given l (record { node = k; serial = is_serial how }) M)
      given_near l how k M = record { more = []; lines = nothing_more M.lines; nodes = λ j. refl }

      was_up : {X : Type 0} (t : Parts) → Some t ≡ None → X
      was_up t is = absurd (let no_way : ◌≡◌ {A = Option Parts} (Some t) None = is in cc no_way)
