-- Coordinators' decisions, and beginnings of commits, walked with both halves.
use Rattle.arj_law_parts.proofs.Words
use Words.{◌≡◌, ◌⊎◌, ◌==◌, ◌||◌, not, is_some, ℕ, List, [], ◌∷◌, Bool, true, false, Option, Some, None, refl, sym, ◌∙◌, ap, subst, inl, inr}
use Words.{⊎_elim, ⊤, if◌then◌else◌, Disk, Effect, Say, Send, Do, Naming, Parts, AreAll, Seen, Uid, uid_number, is_empty}
use Rattle.arj_law_disk_view.proofs.Terms
use Terms.{World, Whole, Allowed, after, done_of, HasPart, is_only_of, only_begins, only_decides, tells_only_of, Named, Answer, Names}
use Terms.{Office, Do as act, Kept, lists_after, or_else, retained, with_list, written_in, chosen, State, Plan, Stage, Preparing}
use Terms.{Confirming, Gone, decided as is_decided, decided_in as in_these, is_gone, is_open, is_sealed, undecided, runs_keep, falls_to}
use Terms.{never, open_made, or_cases, or_left, or_right, put2_rises, put2_true, put_cases, put_other, put_same, test_is, test_not}
use Terms.{test_same, effect_keeps, plain_act, at, posted, said, up, In, Walks, Up, halted, Along, IsFixed, IsLater, IsSeenByDisks, Kinds}
use Terms.{SeesDisks, followed, Idle, has, put, put2, IsTopOf, LeavesOthers, OnlyKept, IsOpenByDisks, IsOpenIn, HasNoPart, IsEndedBare}
use Terms.{IsRecorded, decided_names, ended_names, has_part, HasGoneOn, OnlyAnswers, OnlyAtNode, BothWalk, DisksWalk, IsOther, IsSeenFrom}
use Terms.{IsSeenIn, OnlyRoots, SeesBoth, is_no_work, leaves_the_inc, SeesNaming}
use Terms.machine
use Terms.mail
use Rattle.arj_law_disk.proofs.machine.Restarts.{open_begun}
use Rattle.arj_law_disk.specs.machine.{Guards.MayBegin, Names.Commit, Names.CommitBare}
use Rattle.arj_law_disk_view.proofs.{names.Onward.goes_onward, view.Frames.node_here, view.Later.effects_are_later}
use Rattle.arj_law_disk_view.proofs.{view.Later.later_on, view.Later.later_same}
use Rattle.arj_law_disk_view.proofs.names.BareEnds.{bare_wrote, begun_bare, none_ended, opens_none, plain_bare}
use Rattle.arj_law_disk_view.proofs.names.Pairing.{Stepped, left_disk, naming_on, seen_as, steps, steps_to, stopped_both, unfollowed}
use Rattle.arj_law_disk_view.proofs.names.Pairing.{walks_at}
use Rattle.arj_law_disk_view.specs.names.Both.{HowDecided, IsOnly, BeginningsKeepBoth, DecisionsKeepBoth, OpensNone}

-- ---- what may be noted

decides_plainly : (g : ℕ → Bool) (m : mail.Message) → tells_only_of (only_decides g) m ≡ true → tells_only_of (λ n. false) m ≡ true
decides_plainly g (mail.Prepare t s) is = is
decides_plainly g (mail.Prepared t s) is = is
decides_plainly g (mail.Confirm t) is = is
decides_plainly g (mail.Confirmed t) is = is
decides_plainly g (mail.ToldCommit t m) is = is
decides_plainly g (mail.ToldBare t m) is = is
decides_plainly g (mail.ToldAbort t m) is = is
decides_plainly g (mail.Acked t m) is = is
decides_plainly g (mail.ToldSerial r m) is = is

-- an effect is plain, a decision of one of these tops, or the end of its commit without a record
data Kind (g : ℕ → Bool) (a : machine.Effect) : Type 0 where
  Plainly : is_only_of (λ n. false) a ≡ true → Kind g a
  Decides_one : (t : ℕ) → g t ≡ true → a ≡ machine.Decide t → Kind g a
  Ends_one : (t : ℕ) → g t ≡ true → a ≡ machine.EndBare t → Kind g a

kind_of : (g : ℕ → Bool) (a : machine.Effect) → is_only_of (only_decides g) a ≡ true → Kind g a
kind_of g (machine.Begin t p) is = absurd (never is refl)
kind_of g (machine.Take t s) is = Plainly refl
kind_of g (machine.Seal t) is = Plainly refl
kind_of g (machine.Intend t nodes) is = Plainly refl
kind_of g (machine.Decide t) is = Decides_one t is refl
kind_of g (machine.Remove t nodes) is = Plainly refl
kind_of g (machine.EndBare t) is = Ends_one t is refl
kind_of g (machine.Halt t) is = Plainly refl
kind_of g (machine.Keep t s) is = Plainly refl
kind_of g (machine.Move s h) is = Plainly refl
kind_of g (machine.Finish s h) is = Plainly refl
kind_of g (machine.Drop s h) is = Plainly refl
kind_of g (machine.Agree t) is = absurd (never is refl)
kind_of g (machine.Pass t) is = absurd (never is refl)
kind_of g (machine.Enter t) is = absurd (never is refl)
kind_of g (machine.MoveEntry h) is = Plainly refl
kind_of g (machine.FinishEntry h) is = Plainly refl
kind_of g (machine.DropEntry h) is = Plainly refl
kind_of g (machine.Forget r h) is = Plainly refl
kind_of g (machine.Send m) is = Plainly (decides_plainly g m is)

-- ---- a decision's acts

-- grants and kept lists aren't naming's memory
kept_naming : (x : ℕ) (tops : Kinds) (n : Naming) (S : State) (N : Names) (had : ℕ → ℕ → Bool) (kept : ℕ → Option Kept) →
    SeesNaming x tops n S N → SeesNaming x tops n S (record N { had = had; kept = kept })
kept_naming x tops n S N had kept s = record {
  inc_is = s.inc_is;
  told_is = s.told_is;
  confirmed_is = s.confirmed_is;
  object = λ o is. let so = s.object o is in
      record { rows = so.rows; asked = so.asked; sorted = so.sorted; made = so.made; live = so.live };
}

-- ---- how a top is decided

abbrev lists_by : (ℕ → ℕ) → Plan → (ℕ → Bool) → ℕ → (ℕ → Option Kept) → ℕ → Option Kept
lists_by root p got t kept = λ h. if root h == root t then with_list p got (kept h) else kept h

abbrev retained_by : (ℕ → ℕ) → ℕ → Names → Names
retained_by root t N = record N
    { had = put (root t) (λ i. N.had (root t) i || N.had t i) N.had; kept = put (root t) (or_else (N.kept (root t)) (N.kept t)) N.kept }

abbrev decided_by : Bool → (ℕ → ℕ) → Plan → (ℕ → Bool) → ℕ → Names → Names
decided_by keeps root p got t N = let L = record N { kept = lists_by root p got t N.kept } in chosen keeps (retained_by root t L) L

-- what is had and kept after a decision reads of the disk half the root, the plan and who said Yes
pub decided_same : (keeps : Bool) (t : ℕ) (S T : State) (N : Names) → T.root ≡ S.root → T.plan t ≡ S.plan t → T.got t ≡ S.got t →
    decided_names keeps T t N ≡ decided_names keeps S t N
decided_same keeps t S T N root plan got = λ i. decided_by keeps (root i) (plan i) (got i) t N

pub ended_same : (keeps : Bool) (t : ℕ) (S T : State) (N : Names) → T.root ≡ S.root → ended_names keeps T t N ≡ ended_names keeps S t N
ended_same keeps t S T N root = λ i. chosen keeps (retained_by (root i) t N) N

-- who has a part is found so
pub part_tested : (p : Plan) → HasPart p → has_part p ≡ true
part_tested p (inl writes) = or_left (is_some p.writes) (not (is_empty p.joins)) writes
part_tested p (inr (s, joins)) = or_right (is_some p.writes) (not (is_empty p.joins)) (by p.joins joins)
  where
    by : (ss : List ℕ) → has s ss ≡ true → not (is_empty ss) ≡ true
    by [] is = absurd (never is refl)
    by (n ∷ ns) is = refl

-- a decided top is at its end
pub decided_done : (keeps : Bool) (t : ℕ) (A B : Office) → IsRecorded keeps t A B → is_decided B.world.disk t ≡ true
decided_done keeps t A B r = ap (λ ds. in_these ds t) r.tops
    ∙ or_left (let d = r.done in d.top == t) (in_these A.world.disk.tops t) (ap (λ z. z == t) r.top ∙ test_same t)

sealed_gone : (g : Stage) → is_gone g ≡ true → is_sealed g ≡ true
sealed_gone Idle is = absurd (never is refl)
sealed_gone Preparing is = absurd (never is refl)
sealed_gone Confirming is = refl
sealed_gone Gone is = refl

-- it is said so still where the disk half goes on and no top is decided
how_on : (keeps : Bool) (t : ℕ) (A : Office) (N : Names) (W V : World) → Whole W → V.disk.tops ≡ W.disk.tops → V.disk.bare ≡ W.disk.bare →
    IsLater W V → HowDecided keeps t A (record { world = W; names = N }) → HowDecided keeps t A (record { world = V; names = N })
how_on keeps t A N W V whole tops bares later =
    ⊎_elim (λ u. inl (record { names = u.names; tops = tops ∙ u.tops; bare = λ is. u.bare (ap (λ f. f t) (sym bares) ∙ is) }))
    (λ h. inr (⊎_elim (λ r. inl (recorded r)) (λ b. inr (bare b)) h))
  where
    recorded : IsRecorded keeps t A (record { world = W; names = N }) → IsRecorded keeps t A (record { world = V; names = N })
    recorded r =
        let done = decided_done keeps t A (record { world = W; names = N }) r in
        let begun : W.disk.begun t ≡ true = ⊎_elim (whole.core.fresh.conf t) (whole.core.fresh.light t)
        (whole.core.coordinators.decided_taken t done) in
        let plan = later.plan t begun in
        record {
          names = r.names ∙ sym (decided_same keeps t W.disk V.disk A.names later.root plan
              (later.got t (sealed_gone (W.disk.stage t) (whole.core.coordinators.decided_closed t done))));
          done = r.done;
          tops = tops ∙ r.tops;
          top = r.top;
          plan = r.plan ∙ sym plan;
        }

    bare : IsEndedBare keeps t A (record { world = W; names = N }) → IsEndedBare keeps t A (record { world = V; names = N })
    bare b = record {
      names = b.names ∙ sym (ended_same keeps t W.disk V.disk A.names later.root);
      tops = tops ∙ b.tops;
      bare = later.bare t b.bare;
      plain = ap (λ (p : Plan). p.writes) (later.plan t (begun_bare t W whole b.bare)) ∙ b.plain;
    }

module _ (g keeps : ℕ → Bool) (A : Office) (c0 : Named A) (parts : (t : ℕ) → g t ≡ true → keeps t ≡ false → HasNoPart A.world.disk t) where
  record Inv (C : Office) : Type 0 where
    only : OnlyRoots g A C
    later : IsLater A.world C.world
    unsettled : (z : ℕ) → undecided C.world.disk z ≡ true → undecided A.world.disk z ≡ true
    how : (t : ℕ) → IsOnly g t → HowDecided (keeps t) t A C

  begins : Inv A
  begins = record {
    only = record {
      names = refl;
      root = refl;
      grows = λ h j on. on;
      from = λ h j on. inl on;
      had = λ h o. refl;
      kept = λ h o. refl;
      tops = λ r o. refl;
    };
    later = later_same A.world;
    unsettled = λ z u. u;
    how = λ t one. inl (record { names = refl; tops = refl; bare = λ is. is });
  }

  module _ (C : Office) (c : Named C) (i : Inv C) where
    abbrev S : State
    S = C.world.disk

    only : OnlyRoots g A C
    only = i.only

    goes_on : (a : machine.Effect) → Allowed C.world a → IsLater A.world (after C.world a)
    goes_on a allowed = later_on A.world C.world (after C.world a) i.later (effects_are_later C.world (a ∷ []) (allowed, tt) c.whole)

    plain_step : (a : machine.Effect) → Allowed C.world a → is_only_of (λ z. false) a ≡ true → Stepped Inv (after C.world a)
    plain_step a allowed is =
        let p = plain_act C a allowed is in
        let on = goes_on a allowed in
        record {
          names = C.names;
          named = subst (λ N. Named (record { world = after C.world a; names = N })) p.names (runs_keep C (act a ∷ []) (p.may, tt) c);
          holds = record {
            only = record {
              names = only.names;
              root = on.root;
              grows = only.grows;
              from = only.from;
              had = only.had;
              kept = only.kept;
              tops = λ r o. ap (written_in A.world.disk.root r) p.tops ∙ only.tops r o;
            };
            later = on;
            unsettled = λ z u. i.unsettled z ((opens_none C.world a allowed is).opened z u);
            how = λ t one. how_on (keeps t) t A C.names C.world (after C.world a) c.whole p.tops (plain_bare C.world.disk a is)
                (effects_are_later C.world (a ∷ []) (allowed, tt) c.whole) (i.how t one);
          };
        }

    module _ (t : ℕ) (one : g t ≡ true) where
      -- of another root, and of another action than the root
      other_root : (h : ℕ) → IsOther g A.world.disk (A.world.disk.root h) → (C.world.disk.root h == C.world.disk.root t) ≡ false
      other_root h o = test_not (C.world.disk.root h) (C.world.disk.root t)
          (λ e. o t one (sym (ap (λ f. f t) only.root) ∙ sym e ∙ ap (λ f. f h) only.root))

      other_kept : (h : ℕ) → IsOther g A.world.disk (A.world.disk.root h) → (h == C.world.disk.root t) ≡ false
      other_kept h o = test_not h (C.world.disk.root t)
          (λ e. o t one (sym (c0.roots.idem t) ∙ ap A.world.disk.root (sym (ap (λ f. f t) only.root)) ∙ ap A.world.disk.root (sym e)))

      lists_other : (h : ℕ) → IsOther g A.world.disk (A.world.disk.root h) → lists_after C.world.disk t C.names.kept h ≡ C.names.kept h
      lists_other h o =
          ap (λ b. if b then with_list (C.world.disk.plan t) (C.world.disk.got t) (C.names.kept h) else C.names.kept h) (other_root h o)

      tops_other : (r : ℕ) → IsOther g A.world.disk r →
          written_in A.world.disk.root r (done_of C.world.disk t ∷ C.world.disk.tops) ≡ written_in A.world.disk.root r A.world.disk.tops
      tops_other r o = ap (λ b. if b then or_else (C.world.disk.plan t).writes (written_in A.world.disk.root r C.world.disk.tops) else
          written_in A.world.disk.root r C.world.disk.tops) (test_not (A.world.disk.root t) r (λ e. o t one e)) ∙ only.tops r o

      -- what is had once the root has what the top had
      abbrev Had_then : ℕ → ℕ → Bool
      Had_then = put (C.world.disk.root t) (λ j. C.names.had (C.world.disk.root t) j || C.names.had t j) C.names.had

      retains_more : (h j : ℕ) → A.names.had h j ≡ true → Had_then h j ≡ true
      retains_more h j on = put_cases (λ (row : ℕ → Bool). row j ≡ true) (C.world.disk.root t)
          (λ j. C.names.had (C.world.disk.root t) j || C.names.had t j) C.names.had h
          (λ same. or_left (C.names.had (C.world.disk.root t) j) (C.names.had t j)
          (subst (λ z. C.names.had z j ≡ true) same (only.grows h j on))) (λ other. only.grows h j on)

      retains_from : undecided C.world.disk t ≡ true → (h j : ℕ) → Had_then h j ≡ true → (A.names.had h j ≡ true)
          ⊎ ((z : ℕ) × (g z ≡ true) × (undecided A.world.disk z ≡ true) × (A.world.disk.root z ≡ h) × (A.names.had z j ≡ true))
      retains_from unsettled h j on = put_cases (λ (row : ℕ → Bool). row j ≡ true → (A.names.had h j ≡ true)
          ⊎ ((z : ℕ) × (g z ≡ true) × (undecided A.world.disk z ≡ true) × (A.world.disk.root z ≡ h) × (A.names.had z j ≡ true)))
          (C.world.disk.root t) (λ j. C.names.had (C.world.disk.root t) j || C.names.had t j) C.names.had h
          (λ same both. ⊎_elim (λ own. only.from h j (subst (λ z. C.names.had z j ≡ true) (sym same) own))
          (λ its. tops_own same (only.from t j its)) (or_cases (C.names.had (C.world.disk.root t) j) (C.names.had t j) both))
          (λ other here. only.from h j here) on
        where
          tops_own : h ≡ C.world.disk.root t → (A.names.had t j ≡ true) ⊎ ((z : ℕ) × (g z ≡ true) × (undecided A.world.disk z ≡ true)
              × (A.world.disk.root z ≡ t) × (A.names.had z j ≡ true)) → (A.names.had h j ≡ true)
              ⊎ ((z : ℕ) × (g z ≡ true) × (undecided A.world.disk z ≡ true) × (A.world.disk.root z ≡ h) × (A.names.had z j ≡ true))
          tops_own same (inl its) = inr (t, one, i.unsettled t unsettled, ap (λ f. f t) (sym only.root) ∙ sym same, its)
          tops_own same (inr (z, on_z, open_z, root_z, had_z)) =
              inr (z, on_z, open_z, sym (c0.roots.idem z) ∙ ap A.world.disk.root root_z ∙ ap (λ f. f t) (sym only.root) ∙ sym same, had_z)

      -- the top's root retains what it has, or not
      either_way : (W : World) (X Y : Names) → OnlyRoots g A (record { world = W; names = X }) →
          OnlyRoots g A (record { world = W; names = Y }) → (b : Bool) → OnlyRoots g A (record { world = W; names = chosen b X Y })
      either_way W X Y kept left true = kept
      either_way W X Y kept left false = left

      named_way : (W : World) (X Y : Names) → Named (record { world = W; names = X }) → (keeps t ≡ false →
          Named (record { world = W; names = Y })) → (b : Bool) → keeps t ≡ b → Named (record { world = W; names = chosen b X Y })
      named_way W X Y kept left true is = kept
      named_way W X Y kept left false is = left is

      -- where it doesn't the top has no part in the object
      no_parts : keeps t ≡ false → HasPart (C.world.disk.plan t) → ⊥
      no_parts off part = let q = parts t one off in
          never (part_tested (A.world.disk.plan t) (subst HasPart ((i.later).plan t q.0) part)) q.1

      abbrev L : Names
      L = record C.names { kept = lists_after C.world.disk t C.names.kept }

      decided : Allowed C.world (machine.Decide t) → Stepped Inv (after C.world (machine.Decide t))
      decided allowed = record {
        names = decided_names (keeps t) C.world.disk t C.names;
        named = named_way (after C.world (machine.Decide t)) (retained C.world.disk t L) L (runs_keep C (Commit t ∷ []) (allowed, tt) c)
            (λ off. runs_keep C (act (machine.Decide t) ∷ []) ((allowed, inr (inr (no_part off))), tt) c) (keeps t) refl;
        holds = record {
          only = either_way (after C.world (machine.Decide t)) (retained C.world.disk t L) L
              (record {
                names = ap (λ (N : Names). record N { had = (retained C.world.disk t L).had; kept = (retained C.world.disk t L).kept })
                    only.names;
                root = on.root;
                grows = retains_more;
                from = retains_from unsettled;
                had = λ h o. put_other (C.world.disk.root t) (λ j. C.names.had (C.world.disk.root t) j || C.names.had t j) C.names.had h
                    (other_kept h o) ∙ only.had h o;
                kept = λ h o. put_other (C.world.disk.root t)
                    (or_else (lists_after C.world.disk t C.names.kept (C.world.disk.root t)) (lists_after C.world.disk t C.names.kept t))
                    (lists_after C.world.disk t C.names.kept) h (other_kept h o) ∙ lists_other h o ∙ only.kept h o;
                tops = tops_other;
              })
              (record {
                names = ap (λ (N : Names). record N { kept = lists_after C.world.disk t C.names.kept }) only.names;
                root = on.root;
                grows = only.grows;
                from = only.from;
                had = only.had;
                kept = λ h o. lists_other h o ∙ only.kept h o;
                tops = tops_other;
              })
              (keeps t);
          later = on;
          unsettled = λ z u. i.unsettled z (opened z u);
          how = λ z o. let e : t ≡ z = o t one in subst (λ y. HowDecided (keeps y) y A
              (record { world = after C.world (machine.Decide t); names = decided_names (keeps t) C.world.disk t C.names })) e
              (now (i.how t (subst (IsOnly g) (sym e) o)));
        };
      }
        where
          unsettled : undecided C.world.disk t ≡ true
          unsettled = open_made (is_decided C.world.disk t) (C.world.disk.stage t) (C.world.disk.intent t) allowed.1 (inr allowed.0)

          opened : (z : ℕ) → undecided (after C.world (machine.Decide t)).disk z ≡ true → undecided C.world.disk z ≡ true
          opened z u = (effects_are_later C.world (machine.Decide t ∷ []) (allowed, tt) c.whole).opened z
              (open_begun (after C.world (machine.Decide t)).disk (effect_keeps C.world (machine.Decide t) allowed c.whole).core z u) u

          on : IsLater A.world (after C.world (machine.Decide t))
          on = goes_on (machine.Decide t) allowed

          no_part : keeps t ≡ false → HasPart (C.world.disk.plan t) → ⊥
          no_part off = no_parts off

          now : HowDecided (keeps t) t A C → HowDecided (keeps t) t A
              (record { world = after C.world (machine.Decide t); names = decided_names (keeps t) C.world.disk t C.names })
          now (inl u) = inr (inl (record {
            names = ap (decided_names (keeps t) C.world.disk t) u.names;
            done = done_of C.world.disk t;
            tops = ap (λ ds. done_of C.world.disk t ∷ ds) u.tops;
            top = refl;
            plan = refl;
          }))
          now (inr (inl r)) = absurd (never (decided_done (keeps t) t A C r) allowed.1)
          now (inr (inr b)) = absurd (never allowed.0 (ap is_some (c.whole.core.bare.no_record t b.bare)))

      ended_bare : Allowed C.world (machine.EndBare t) → Stepped Inv (after C.world (machine.EndBare t))
      ended_bare allowed = record {
        names = ended_names (keeps t) C.world.disk t C.names;
        named = named_way (after C.world (machine.EndBare t)) (retained C.world.disk t C.names) C.names (runs_keep C (CommitBare t ∷ [])
            (allowed, tt) c) (λ off. runs_keep C (act (machine.EndBare t) ∷ []) (allowed, tt) c) (keeps t) refl;
        holds = record {
          only = either_way (after C.world (machine.EndBare t)) (retained C.world.disk t C.names) C.names
              (record {
                names = ap (λ (N : Names).
                    record N { had = (retained C.world.disk t C.names).had; kept = (retained C.world.disk t C.names).kept }) only.names;
                root = on.root;
                grows = retains_more;
                from = retains_from unsettled;
                had = λ h o. put_other (C.world.disk.root t) (λ j. C.names.had (C.world.disk.root t) j || C.names.had t j) C.names.had h
                    (other_kept h o) ∙ only.had h o;
                kept = λ h o. put_other (C.world.disk.root t) (or_else (C.names.kept (C.world.disk.root t)) (C.names.kept t)) C.names.kept h
                    (other_kept h o) ∙ only.kept h o;
                tops = only.tops;
              })
              (record {
                names = only.names;
                root = on.root;
                grows = only.grows;
                from = only.from;
                had = only.had;
                kept = only.kept;
                tops = only.tops;
              })
              (keeps t);
          later = on;
          unsettled = λ z u. i.unsettled z (opened z u);
          how = λ z o. let e : t ≡ z = o t one in subst (λ y. HowDecided (keeps y) y A
              (record { world = after C.world (machine.EndBare t); names = ended_names (keeps t) C.world.disk t C.names })) e
              (now (i.how t (subst (IsOnly g) (sym e) o)));
        };
      }
        where
          confirming : is_gone (C.world.disk.stage t) ≡ false
          confirming = ap is_gone allowed.sealed

          unsettled : undecided C.world.disk t ≡ true
          unsettled = open_made (is_decided C.world.disk t) (C.world.disk.stage t) (C.world.disk.intent t) (falls_to (is_decided
              C.world.disk t) (λ d. never (c.whole.core.coordinators.decided_closed t d) confirming)) (inl (ap is_open allowed.sealed))

          opened : (z : ℕ) → undecided (after C.world (machine.EndBare t)).disk z ≡ true → undecided C.world.disk z ≡ true
          opened z u = (effects_are_later C.world (machine.EndBare t ∷ []) (allowed, tt) c.whole).opened z
              (open_begun (after C.world (machine.EndBare t)).disk (effect_keeps C.world (machine.EndBare t) allowed c.whole).core z u) u

          on : IsLater A.world (after C.world (machine.EndBare t))
          on = goes_on (machine.EndBare t) allowed

          now : HowDecided (keeps t) t A C → HowDecided (keeps t) t A
              (record { world = after C.world (machine.EndBare t); names = ended_names (keeps t) C.world.disk t C.names })
          now (inl u) = inr (inr (record {
            names = ap (ended_names (keeps t) C.world.disk t) u.names;
            tops = u.tops;
            bare = put_same t true C.world.disk.bare;
            plain = bare_wrote C.world t c.whole allowed;
          }))
          now (inr (inl r)) = absurd (never (c.whole.core.coordinators.decided_closed t (decided_done (keeps t) t A C r)) confirming)
          now (inr (inr b)) = absurd (never (c.whole.core.bare.gone t b.bare) confirming)

    one_step : (a : machine.Effect) → Allowed C.world a → Kind g a → Stepped Inv (after C.world a)
    one_step a allowed (Plainly is) = plain_step a allowed is
    one_step a allowed (Decides_one t one same) =
        subst (λ z. Stepped Inv (after C.world z)) (sym same) (decided t one (subst (Allowed C.world) same allowed))
    one_step a allowed (Ends_one t one same) =
        subst (λ z. Stepped Inv (after C.world z)) (sym same) (ended_bare t one (subst (Allowed C.world) same allowed))

  stepped : (W : World) → Along (record { from = A.world; noted = only_decides g }) W → Stepped Inv W
  stepped W a = subst (Stepped Inv) a.here
      (steps Inv (only_decides g) (λ C z c i allowed is. one_step C c i z allowed (kind_of g z is)) a.effects A c0 begins a.allowed a.only)

  -- ---- the walk

  module _ (x : ℕ) (tops : Kinds) (unwalked : tops.walk ≡ None) (e k : ℕ) (d : Disk) (was : Option Parts) (v : Parts) (M : Seen) (mine :
      (o : Naming) → k ≡ 1 → v.naming ≡ Some o → SeesNaming x tops o A.world.disk A.names) (both : SeesBoth x tops A (at k d was M)) where
    memory_on : (W : World) (N : Names) → OnlyRoots g A (record { world = W; names = N }) → (o : Naming) →
        SeesNaming x tops o A.world.disk A.names → SeesNaming x tops o W.disk N
    memory_on W N only o s = subst (λ L. SeesNaming x tops o W.disk L) (sym only.names)
        (kept_naming x tops o W.disk A.names N.had N.kept (naming_on x tops o A.world.disk W.disk A.names only.root s))

    inc_on : (W : World) (N : Names) → OnlyRoots g A (record { world = W; names = N }) → N.inc ≡ A.names.inc
    inc_on W N only = ap (λ (L : Names). L.inc) only.names

    pub stops : (c : Disk) (N : Seen) → c.inc ≡ d.inc → N.nodes ≡ M.nodes →
        IsSeenByDisks x (followed tops A.world (only_decides g)) (halted e k c N) → IsSeenIn g keeps x tops A (halted e k c N)
    stops c N inc same (W, s) =
        let st = stepped W s.along in
        let i = st.holds in (
          record { world = W; names = st.names },
          record { only = i.only; along = s.along; how = i.how },
          stopped_both x tops k d was A M both e (record { world = W; names = st.names }) N c st.named (inc_on W st.names i.only)
              (unfollowed x tops unwalked (only_decides g) A.world W (halted e k c N) s) inc same (λ other. memory_on W st.names i.only),
        )

    -- where nobody was decided on the way
    pub stops_same : (c : Disk) (N : Seen) → c.inc ≡ d.inc → N.nodes ≡ M.nodes →
        IsOpenByDisks x (followed tops A.world (only_decides g)) A.world (halted e k c N) → IsOpenIn g keeps x tops A (halted e k c N)
    stops_same c N inc same (W, tops_same, s) =
        let st = stepped W s.along in
        let i = st.holds in (
          record { world = W; names = st.names },
          record { only = i.only; along = s.along; how = i.how },
          tops_same,
          stopped_both x tops k d was A M both e (record { world = W; names = st.names }) N c st.named (inc_on W st.names i.only)
              (unfollowed x tops unwalked (only_decides g) A.world W (halted e k c N) s) inc same (λ other. memory_on W st.names i.only),
        )

    pub decisions_stop : (outs : List Effect) → AreAll leaves_the_inc outs → Walks (IsOpenByDisks x (followed tops A.world (only_decides g))
        A.world) e k outs (λ c N. ⊤) d M → Walks (IsOpenIn g keeps x tops A) e k outs (λ c N. ⊤) d M
    decisions_stop outs all walk = walks_at e k d M (IsOpenByDisks x (followed tops A.world (only_decides g)) A.world)
        (IsOpenIn g keeps x tops A) (λ c N. ⊤) (λ c N. ⊤) stops_same outs all d M refl refl (λ L inc same end. tt) walk

    ends : (c : Disk) (L : Seen) → c.inc ≡ d.inc → L.nodes ≡ M.nodes →
        Up (IsSeenByDisks x (followed tops A.world (only_decides g))) k v c L → Up (IsSeenIn g keeps x tops A) k v c L
    ends c L inc same (W, s) =
        let st = stepped W s.along in
        let i = st.holds in (
          record { world = W; names = st.names },
          record { only = i.only; along = s.along; how = i.how },
          seen_as x tops k d was A M both v (record { world = W; names = st.names }) L c st.named (inc_on W st.names i.only)
              (unfollowed x tops unwalked (only_decides g) A.world W (up k c v L) s) inc same
              (λ o one is. memory_on W st.names i.only o (mine o one is)) (λ other. memory_on W st.names i.only),
        )

    pub decisions_both : (outs : List Effect) → AreAll leaves_the_inc outs → Walks (IsSeenByDisks x
        (followed tops A.world (only_decides g))) e k outs (Up (IsSeenByDisks x (followed tops A.world (only_decides g))) k v) d M →
        Walks (IsSeenIn g keeps x tops A) e k outs (Up (IsSeenIn g keeps x tops A) k v) d M
    decisions_both outs all walk = walks_at e k d M (IsSeenByDisks x (followed tops A.world (only_decides g))) (IsSeenIn g keeps x tops A)
        (Up (IsSeenByDisks x (followed tops A.world (only_decides g))) k v) (Up (IsSeenIn g keeps x tops A) k v) stops outs all d M refl
        refl (λ L inc same end. ends (left_disk outs d) L inc same end) walk

pub decisions_keep_both : DecisionsKeepBoth
decisions_keep_both x tops e k d was v outs g keeps A M unwalked all parts mine both walk =
    decisions_both g keeps A both.named parts x tops unwalked e k d was v M mine both outs all walk

-- ---- a commit begins

begins_plainly : (t : ℕ) (m : mail.Message) → tells_only_of (only_begins t) m ≡ true → tells_only_of (λ n. false) m ≡ true
begins_plainly t (mail.Prepare z s) is = is
begins_plainly t (mail.Prepared z s) is = is
begins_plainly t (mail.Confirm z) is = is
begins_plainly t (mail.Confirmed z) is = is
begins_plainly t (mail.ToldCommit z m) is = is
begins_plainly t (mail.ToldBare z m) is = is
begins_plainly t (mail.ToldAbort z m) is = is
begins_plainly t (mail.Acked z m) is = is
begins_plainly t (mail.ToldSerial r m) is = is

pub begin_of : (t : ℕ) (a : machine.Effect) → is_only_of (only_begins t) a ≡ true →
    (is_only_of (λ n. false) a ≡ true) ⊎ ((p : Plan) × (a ≡ machine.Begin t p))
begin_of t (machine.Begin z p) is = inr (p, ap (λ y. machine.Begin y p) (test_is z t is))
begin_of t (machine.Take z s) is = inl refl
begin_of t (machine.Seal z) is = inl refl
begin_of t (machine.Intend z nodes) is = inl refl
begin_of t (machine.Decide z) is = absurd (never is refl)
begin_of t (machine.Remove z nodes) is = inl refl
begin_of t (machine.EndBare z) is = absurd (never is refl)
begin_of t (machine.Halt z) is = inl refl
begin_of t (machine.Keep z s) is = inl refl
begin_of t (machine.Move s h) is = inl refl
begin_of t (machine.Finish s h) is = inl refl
begin_of t (machine.Drop s h) is = inl refl
begin_of t (machine.Agree z) is = absurd (never is refl)
begin_of t (machine.Pass z) is = absurd (never is refl)
begin_of t (machine.Enter z) is = absurd (never is refl)
begin_of t (machine.MoveEntry h) is = inl refl
begin_of t (machine.FinishEntry h) is = inl refl
begin_of t (machine.DropEntry h) is = inl refl
begin_of t (machine.Forget r h) is = inl refl
begin_of t (machine.Send m) is = inl (begins_plainly t m is)

-- no stop falls on a walk without work
pub never_stops : (P : Seen → Type 0) (e k : ℕ) (es : List Effect) → AreAll is_no_work es → (d : Disk) (N : Seen) →
    Walks P e k es (λ c L. ⊤) d N
never_stops P e k [] all d N = tt
never_stops P e k (Say b ∷ es) all d N = never_stops P e k es all d (said e (b ∷ []) N)
never_stops P e k (Send to m ∷ es) all d N =
    λ more quiet. never_stops P e k es all d (said e more (posted (record { from = k; to = to; message = m }) N))
never_stops P e k (Do w ∷ es) all d N = absurd (never all refl)

-- a walk without work is over at its end alone
pub no_work : (e k : ℕ) (M : Seen) (P R : Seen → Type 0) (E F : Disk → Seen → Type 0) (d : Disk) → ((L : Seen) → L.nodes ≡ M.nodes → E d L →
    F d L) → (es : List Effect) → AreAll is_no_work es → (N : Seen) → N.nodes ≡ M.nodes → Walks P e k es E d N → Walks R e k es F d N
no_work e k M P R E F d end [] all N same walk = end N same walk
no_work e k M P R E F d end (Say b ∷ es) all N same walk = no_work e k M P R E F d end es all (said e (b ∷ []) N) same walk
no_work e k M P R E F d end (Send to m ∷ es) all N same walk = λ more quiet.
    no_work e k M P R E F d end es all (said e more (posted (record { from = k; to = to; message = m }) N)) same (walk more quiet)
no_work e k M P R E F d end (Do w ∷ es) all N same walk = absurd (never all refl)

module _ (x : ℕ) (tops : Kinds) (unwalked : tops.walk ≡ None) (e k : ℕ) (d : Disk) (t v : Parts) (top : ℕ) (p : Plan) (A : Office)
    (M : Seen) (naming : v.naming ≡ t.naming) (both : SeesBoth x tops A (up k d t M))
    (planned : (W : World) (N : Seen) → SeesDisks x tops W (up k d v N) → W.disk.begun top ≡ true → W.disk.plan top ≡ p)
    (may : (C : Office) → Named C → C.names ≡ A.names → IsLater A.world C.world → C.world.disk.tops ≡ A.world.disk.tops →
    OpensNone A.world.disk C.world.disk → Allowed C.world (machine.Begin top p) → MayBegin C top p) where
  record Begun (C : Office) : Type 0 where
    names_same : C.names ≡ A.names
    later : IsLater A.world C.world
    tops_same : C.world.disk.tops ≡ A.world.disk.tops
    unopened : C.world.disk.stage top ≡ Idle → OpensNone A.world.disk C.world.disk

  module _ (W : World) (L : Seen) (disks : SeesDisks x tops W (up k d v L)) where
    begun_step : (C : Office) (a : machine.Effect) → Named C → Begun C → Allowed C.world a → is_only_of (only_begins top) a ≡ true →
        IsLater (after C.world a) W → Stepped Begun (after C.world a)
    begun_step C a c i allowed is later = ⊎_elim plain begins_now (begin_of top a is)
      where
        on : IsLater A.world (after C.world a)
        on = later_on A.world C.world (after C.world a) i.later (effects_are_later C.world (a ∷ []) (allowed, tt) c.whole)

        plain : is_only_of (λ n. false) a ≡ true → Stepped Begun (after C.world a)
        plain plain_is =
            let q = plain_act C a allowed plain_is in
            let n = opens_none C.world a allowed plain_is in
            record {
              names = C.names;
              named = subst (λ N. Named (record { world = after C.world a; names = N })) q.names (runs_keep C (act a ∷ []) (q.may, tt) c);
              holds = record {
                names_same = i.names_same;
                later = on;
                tops_same = q.tops ∙ i.tops_same;
                unopened = λ idle. let o = i.unopened (n.idle top idle) in record { opened = λ z u. o.opened z (n.opened z u) };
              };
            }

        begins_now : (q : Plan) × (a ≡ machine.Begin top q) → Stepped Begun (after C.world a)
        begins_now (q, same) = record {
          names = C.names;
          named = subst (λ z. Named (record { world = after C.world z; names = C.names })) (sym same)
              (subst (λ y. Named (record { world = after C.world (machine.Begin top y); names = C.names })) (sym plan_is)
              (runs_keep C (act (machine.Begin top p) ∷ []) (
                may C c i.names_same i.later i.tops_same (i.unopened can.idle)
                    (subst (λ y. Allowed C.world (machine.Begin top y)) plan_is can),
                tt,
              ) c));
          holds = record {
            names_same = i.names_same;
            later = on;
            tops_same = ap (λ z. (after C.world z).disk.tops) same ∙ i.tops_same;
            unopened = λ idle. absurd (never refl (sym (ap is_open (put_same top Preparing C.world.disk.stage))
                ∙ ap (λ z. is_open ((after C.world z).disk.stage top)) (sym same) ∙ ap is_open idle));
          };
        }
          where
            can : Allowed C.world (machine.Begin top q)
            can = subst (Allowed C.world) same allowed

            lately : IsLater (after C.world (machine.Begin top q)) W
            lately = subst (λ z. IsLater (after C.world z) W) same later

            has_begun : (after C.world (machine.Begin top q)).disk.begun top ≡ true
            has_begun = put_same top true C.world.disk.begun

            plan_is : q ≡ p
            plan_is =
                sym (put_same top q C.world.disk.plan) ∙ sym (lately.plan top has_begun) ∙ planned W L disks (lately.begun top has_begun)

    begun_office : Along (record { from = A.world; noted = only_begins top }) W → Stepped Begun W
    begun_office a = steps_to Begun (only_begins top) W begun_step a.effects A both.named
        (record { names_same = refl; later = later_same A.world; tops_same = refl; unopened = λ idle. record { opened = λ z u. u } })
        a.allowed a.only a.here

  begun_end : (L : Seen) → L.nodes ≡ M.nodes → Up (IsSeenByDisks x (followed tops A.world (only_begins top))) k v d L →
      Up (IsSeenFrom x tops A) k v d L
  begun_end L same (W, s) =
      let disks : SeesDisks x tops W (up k d v L) = unfollowed x tops unwalked (only_begins top) A.world W (up k d v L) s in
      let st = begun_office W L disks s.along in
      let i = st.holds in
      let B : Office = record { world = W; names = st.names } in
      let on : (o : Naming) → SeesNaming x tops o A.world.disk A.names → SeesNaming x tops o W.disk st.names = λ o z.
      subst (λ N. SeesNaming x tops o W.disk N) (sym i.names_same) (naming_on x tops o A.world.disk W.disk A.names i.later.root z) in (
        B,
        record {
          later = i.later;
          tops = i.tops_same;
          bare = λ z. none_ended (only_begins top) z refl A.world W s.along;
          had = ap (λ (N : Names). N.had) i.names_same;
          kept = ap (λ (N : Names). N.kept) i.names_same;
          answers = λ a j. subst (λ (N : Names). In a N.answers) (sym i.names_same) j;
          inc = ap (λ (N : Names). N.inc) i.names_same;
          confd = λ z on. ap (λ (N : Names). N.confd z) i.names_same ∙ on;
          onward = goes_onward (only_begins top) (λ z. refl) A B s.along;
        },
        seen_as x tops k d (Some t) A M both v B L d st.named (ap (λ (N : Names). N.inc) i.names_same) disks refl same
            (λ o one is. on o (both.names.memory (record { number = k; disk = d; live = Some t }) t o (ap (λ m. (up k d t M).nodes m)
            (sym one) ∙ node_here M k (record { number = k; disk = d; live = Some t })) refl (sym naming ∙ is))) (λ other. on),
      )

  pub beginnings_both : (outs : List Effect) → AreAll is_no_work outs → DisksWalk (only_begins top) x tops A e k outs v d M →
      BothWalk x tops A e k outs v d M
  beginnings_both outs all walk = no_work e k M (IsSeenByDisks x (followed tops A.world (only_begins top))) (IsSeenFrom x tops A)
      (Up (IsSeenByDisks x (followed tops A.world (only_begins top))) k v) (Up (IsSeenFrom x tops A) k v) d begun_end outs all M refl walk

pub beginnings_keep_both : BeginningsKeepBoth
beginnings_keep_both x tops e k d t v outs top p A M unwalked all naming both planned may walk =
    beginnings_both x tops unwalked e k d t v top p A M naming both planned may outs all walk

-- ---- answers

-- grants, kept lists and answers aren't naming's memory
pub answered_naming : (x : ℕ) (tops : Kinds) (n : Naming) (S : State) (N : Names) (had : ℕ → ℕ → Bool) (kept : ℕ → Option Kept)
    (answers : List Answer) → SeesNaming x tops n S N → SeesNaming x tops n S (record N { had = had; kept = kept; answers = answers })
answered_naming x tops n S N had kept answers s = record {
  inc_is = s.inc_is;
  told_is = s.told_is;
  confirmed_is = s.confirmed_is;
  object = λ o is. let so = s.object o is in
      record { rows = so.rows; asked = so.asked; sorted = so.sorted; made = so.made; live = so.live };
}

-- where grants and kept lists alone have changed no answer was given
pub kept_only : (t g : ℕ) (C D : Office) → OnlyKept C D → D.names.had ≡ put2 t g true C.names.had → C.world.disk.stage t ≡ Idle →
    C.world.disk.serial t ≡ false → OnlyAnswers C D
kept_only t g C D only had idle plain = record {
  world = only.world;
  names = only.names
      ∙ ap (λ y. record C.names { had = D.names.had; kept = D.names.kept; answers = y }) (ap (λ (L : Names). L.answers) (sym only.names));
  answers = λ a j. subst (λ (L : Names). In a L.answers) (sym only.names) j;
  grows = only.had;
  narrows = only.narrows;
  heard = λ h i on. ⊎_elim (λ (new : (h ≡ t) × (i ≡ g)). inr (ap C.world.disk.stage new.0 ∙ idle, ap C.world.disk.serial new.0 ∙ plain))
      (λ old. inl old) (put2_true t g C.names.had h i (ap (λ f. f h i) (sym had) ∙ on));
}

-- of roots nothing changes by an answer to a Load
module _ (A C : Office) (on : HasGoneOn A C) where
  -- by an answer to a call of a top what is kept and had of another root stays
  pub others_left : (tops : Kinds) (root top : Uid) (g : ℕ) (D : Office) → IsFixed tops A.world.disk → IsTopOf tops root top → OnlyKept C D
      → D.names.had ≡ put2 (uid_number top) g true C.names.had → LeavesOthers tops root C D → OnlyAtNode (λ n. n == uid_number top) A D
  others_left tops root top g D fixed of only had leaves = record {
    root = ap (λ (V : World). V.disk.root) only.world ∙ on.later.root;
    grows = λ h i old. ap (λ f. f h i) had ∙ put2_rises (uid_number top) g C.names.had h i (ap (λ (L : Names). L.had h i) on.names ∙ old);
    had = λ h o. ap (λ f. f h) had ∙ put_other (uid_number top) (put g true (C.names.had (uid_number top))) C.names.had h
        (test_not h (uid_number top) (λ e. o (uid_number top) (test_same (uid_number top)) (ap A.world.disk.root (sym e))))
        ∙ ap (λ (L : Names). L.had h) on.names;
    kept = λ h o. leaves h (λ e. o (uid_number top) (test_same (uid_number top)) (ap (λ f. f (uid_number top)) fixed.root ∙ of.of_root
        ∙ sym e ∙ sym (ap (λ f. f h) fixed.root))) ∙ ap (λ (L : Names). L.kept h) on.names;
    tops = λ r o. ap (λ (V : World). written_in A.world.disk.root r V.disk.tops) only.world ∙ ap (written_in A.world.disk.root r) on.tops;
    answers = λ b j. subst (λ (L : Names). In b L.answers) (sym only.names) (subst (λ (L : Names). In b L.answers) (sym on.names) j);
  }
