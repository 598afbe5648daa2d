-- Answers that coordinators take and stores give, before whatever else a step does.
use Rattle.arj_law_parts.proofs.Words
use Words.{◌≡◌, ◌==◌, ℕ, [], ◌∷◌, true, false, Some, None, refl, sym, ◌∙◌, ap, subst, inl, inr, ⊎_elim, Contains, in_from, in_to, Uid}
use Words.{Known, Coord, Grant, Root, Said, granted_with, kept_of, with_grant, Naming, uid_number, Seen, is_binding}
use Rattle.arj_law_disk_view.proofs.Terms
use Terms.{World, end_of, Loaded, Names, Office, acted, State, In, put2, runs_keep, put2_rises, up, packed, Kinds, SeesDisks, HasGoneOn}
use Terms.{OnlyAnswers, OnlyAtNode, SeesBoth, SeesGrants, StaysRetained, AfterInclude, HasList, HasRetained, IsShort, IsTopOf, KeepsCalls}
use Terms.{OnlyKept, SeesLists, NamesGo, SeesNaming}
use Rattle.arj_law_disk.specs.machine.Names.{AnswerLoad, Hear}
use Rattle.arj_law_disk_view.proofs.names.CoordBoth.{answered_naming, kept_only, others_left}
use Rattle.arj_law_disk_view.proofs.names.GrantSteps.{came_from, grants_stay, heard}
use Rattle.arj_law_disk_view.proofs.names.ListSteps.{lists_are_heard, kept_still}
use Rattle.arj_law_disk_view.proofs.view.{Frames.node_here, Later.later_same, StoreSteps.stores_load}
use Rattle.arj_law_disk_view.specs.names.Heard.{CallsAreTaken, HasOfRoot, IncludesAreTaken, IsHeard, LoadsAreGiven}

-- acts that change nothing but answers, grants and kept lists leave both halves seen
pub heard_both : (x : ℕ) (tops : Kinds) (Q : Office → Type 0) (A : Office) (M : Seen) → SeesBoth x tops A M →
    NamesGo A (λ D. OnlyAnswers A D × Q D) → IsHeard x tops Q A M
heard_both x tops Q A M both go = (
  end_of A go.acts,
  only,
  record {
    named = runs_keep A go.acts go.may both.named;
    disks = subst (λ V. SeesDisks x tops V M) (sym only.world) both.disks;
    names = record {
      inc = λ n is. ap (λ (L : Names). L.inc) only.names ∙ both.names.inc n is;
      memory = λ n p o is live naming. on o (both.names.memory n p o is live naming);
    };
  },
  go.there.1,
)
  where
    only : OnlyAnswers A (end_of A go.acts)
    only = go.there.0

    on : (o : Naming) → SeesNaming x tops o A.world.disk A.names →
        SeesNaming x tops o (end_of A go.acts).world.disk (end_of A go.acts).names
    on o z = subst (λ (V : World). SeesNaming x tops o V.disk (end_of A go.acts).names) (sym only.world)
        (subst (λ L. SeesNaming x tops o A.world.disk L) (sym only.names)
        (answered_naming x tops o A.world.disk A.names (end_of A go.acts).names.had (end_of A go.acts).names.kept
        (end_of A go.acts).names.answers z))

-- no answer is taken
pub none_heard : (A : Office) → OnlyAnswers A A
none_heard A = record {
  world = refl;
  names = refl;
  answers = λ a i. i;
  grows = λ h i on. on;
  narrows = λ h v is. kept_still v (A.names.kept h) is;
  heard = λ h i on. inl on;
}

gone_on : (A : Office) → HasGoneOn A A
gone_on A = record { names = refl; later = later_same A.world; tops = refl }

pub loads_are_given : LoadsAreGiven
loads_are_given x k tops d t st top i l A M free held answered listed both =
    let q = stores_load x k d.store A.world.disk st (both.disks.stores k (record { number = k; disk = d; live = Some t })
    (node_here M k (record { number = k; disk = d; live = Some t }))) free held in
    heard_both x tops (λ D. In (Loaded top i (packed st)) D.names.answers × ((D.names.had ≡ A.names.had) × (D.names.kept ≡ A.names.kept))) A
    (up k d t M) both (record {
      acts = AnswerLoad top i k l (packed st) ∷ [];
      may = (record { answered = answered; listed = listed; free = q.0; held = q.1 }, tt);
      there = (
        record {
          world = refl;
          names = refl;
          answers = λ a j. inr j;
          grows = λ h z old. old;
          narrows = λ h v is. kept_still v (A.names.kept h) is;
          heard = λ h z old. inl old;
        },
        (inl refl, (refl, refl)),
      );
    })

-- ---- calls and includes

-- the grant that an answer brought was taken
granted : (x : ℕ) (root : Uid) (c : Coord) (r q : Root) (g : Grant) (S : State) (A : Office) (L : Names) → S ≡ A.world.disk → g.x ≡ x →
    SeesGrants x root c r A.world.disk A.names → A.world.disk.root (uid_number g.top) ≡ uid_number root →
    A.world.disk.serial (uid_number g.top) ≡ false
    → L.had ≡ put2 (uid_number g.top) g.least true A.names.had → q.grants ≡ granted_with g r.grants → StaysRetained x c r c q →
    SeesGrants x root c q S L
granted x root c r q g S A L here of s of_root plain had grants stays =
    let one : SeesGrants x root c (with_grant g r) A.world.disk
    (record A.names { had = put2 (uid_number g.top) g.least true A.names.had }) = heard x root c r g A s of_root plain of in
    let two : SeesGrants x root c (with_grant g r) A.world.disk L = record {
      own = λ w j at off on. one.own w j at off (ap (λ f. f (uid_number w) j) (sym had) ∙ on);
      least = λ m there at. ap (λ f. f (uid_number m.top) m.least) had ∙ one.least m there at;
      kept = λ j serial on. one.kept j serial (ap (λ f. f (uid_number root) j) (sym had) ∙ on);
    } in
    subst (λ V. SeesGrants x root c q V L) (sym here)
    (grants_stay x root c c (with_grant g r) q A.world.disk A.world.disk L two grants stays refl refl)

pub calls_are_taken : CallsAreTaken
calls_are_taken x g tops root top c r q known place free A M idle answered has lasting of own now step stays both =
    let fixed = (let f = both.disks in f.fixed) in
    let of_root = ap (λ f. f (uid_number top)) fixed.root ∙ of.of_root in
    let plain = ap (λ f. f (uid_number top)) fixed.serial ∙ of.plain in
    let go = lists_are_heard x g tops root top c r q known place free A both.named fixed has.0 has.1 lasting of own idle answered now
    step in
    let only = go.there.0 in
    heard_both x tops (λ D. HasOfRoot x tops root c q D × (D.names.had ≡ put2 (uid_number top) g true A.names.had) × OnlyAtNode (λ n. n
    == uid_number top) A D × (free ≡ false → KeepsCalls tops root (kept_of x r) (kept_of x q) A.names D.names)) A M both (record {
      acts = go.acts;
      may = go.may;
      there = (
        kept_only (uid_number top) g A (end_of A go.acts) only go.there.2 idle plain,
        (
          (
            granted x root c r q (record { top = top; x = x; least = g; named = Some known.binding }) (end_of A go.acts).world.disk A
                (end_of A go.acts).names (ap (λ (V : World). V.disk) only.world) refl has.0 of_root plain go.there.2 step.grants stays,
            go.there.1,
          ),
          go.there.2,
          others_left A A (gone_on A) tops root top g (end_of A go.acts) fixed of only go.there.2 go.there.3,
          go.there.4,
        ),
      );
    })

-- the lists are the root's once an include's grant is noted
module _ (x g : ℕ) (tops : Kinds) (root top : Uid) (c : Coord) (r q : Root) (N : Names) (s : SeesLists x tops root c r N)
    (of : IsTopOf tops root top) (after : AfterInclude x g top r q) where
  abbrev new : Grant
  new = record { top = top; x = x; least = g; named = None }

  old : {k : Known} → kept_of x q ≡ Some k → kept_of x r ≡ Some k
  old is = sym after.kept ∙ is

  said_back : {z : Said} → Contains q.said z → Contains r.said z
  said_back {z} i = subst (λ ss. Contains ss z) after.said i

  -- each grant is an old one, the include's, or an old one with the include's
  of_grants : (P : Grant → Type 0) → ((h : Grant) → Contains r.grants h → P h) → P new →
      ((h : Grant) (l : ℕ) → Contains r.grants h → P (record h { least = l })) → (m : Grant) → Contains q.grants m → P m
  of_grants P olds one both m i = let j : Contains (granted_with new r.grants) m = subst (λ gs. Contains gs m) after.grants i in
      came_from P new r.grants (λ h k. olds h (in_to h r.grants k)) one (λ h k same on. both h _ (in_to h r.grants k)) m
      (in_from m (granted_with new r.grants) j)

  list_on : (z : ℕ) (k : Known) → HasList N z k → HasList (record N { had = put2 (uid_number top) g true N.had }) z k
  list_on z k h = record { kept = h.kept; there = h.there; since = h.since; within = h.within }

  retained_on : (k : Known) → HasRetained N (uid_number root) k →
      HasRetained (record N { had = put2 (uid_number top) g true N.had }) (uid_number root) k
  retained_on k h = record {
    had = put2_rises (uid_number top) g N.had (uid_number root) (let b = k.binding in b.inc) h.had;
    kept = h.kept;
    there = h.there;
  }

  pub included_lists : SeesLists x tops root c q (record N { had = put2 (uid_number top) g true N.had })
  included_lists = record {
    agree = λ k h l is. s.agree k h l (old is);
    family = of_grants (λ m. IsTopOf tops root m.top) (λ h i. s.family h i) of (λ h l i. s.family h i);
    granted = λ m b i.
        of_grants (λ z. z.x ≡ x → z.named ≡ Some b → (put2 (uid_number top) g true N.had (uid_number z.top) b.inc ≡ true) × IsShort b)
        (λ h j on is. let f = s.granted h b j on is in
        (put2_rises (uid_number top) g N.had (uid_number h.top) b.inc f.0, f.1)) (λ on is. absurd (cc is))
        (λ h l j on is. let f = s.granted h b j on is in (put2_rises (uid_number top) g N.had (uid_number h.top) b.inc f.0, f.1)) m i;
    named = λ k m is i. of_grants (λ z. z.x ≡ x → is_binding k.binding z.named ≡ true →
        HasList (record N { had = put2 (uid_number top) g true N.had }) (uid_number z.top) k)
        (λ h j on same. list_on (uid_number h.top) k (s.named k h (old is) j on same)) (λ on same. absurd (cc same))
        (λ h l j on same. list_on (uid_number h.top) k (s.named k h (old is) j on same)) m i;
    short = λ k is. s.short k (old is);
    called = λ k z t is i e off on at.
        ⊎_elim (λ h. inl (list_on (uid_number t) k h)) (λ h. inr (retained_on k h)) (s.called k z t (old is) (said_back i) e off on at);
    retained = λ k z is i e on. retained_on k (s.retained k z (old is) (said_back i) e on);
    nothing = λ is z i e. s.nothing (sym after.kept ∙ is) z (said_back i) e;
  }

pub includes_are_taken : IncludesAreTaken
includes_are_taken x g tops root top c r q l A M idle answered has of after stays both =
    let fixed = (let f = both.disks in f.fixed) in
    let of_root = ap (λ f. f (uid_number top)) fixed.root ∙ of.of_root in
    let plain = ap (λ f. f (uid_number top)) fixed.serial ∙ of.plain in
    let B : Office = acted A (Hear (uid_number top) g true l) in
    let only : OnlyKept A B = record {
      names = refl;
      world = refl;
      had = λ t i on. put2_rises (uid_number top) g A.names.had t i on;
      narrows = λ h v is. kept_still v (A.names.kept h) is;
    } in
    heard_both x tops (λ D. HasOfRoot x tops root c q D × (D.names.had ≡ put2 (uid_number top) g true A.names.had)
    × OnlyAtNode (λ n. n == uid_number top) A D × (D.names.kept ≡ A.names.kept)) A M both (record {
      acts = Hear (uid_number top) g true l ∷ [];
      may = (record { answered = answered; idle = idle }, tt);
      there = (
        kept_only (uid_number top) g A (acted A (Hear (uid_number top) g true l)) only refl idle plain,
        (
          (
            granted x root c r q (record { top = top; x = x; least = g; named = None }) A.world.disk A
                (record A.names { had = put2 (uid_number top) g true A.names.had }) refl refl has.0 of_root plain refl after.grants stays,
            included_lists x g tops root top c r q A.names has.1 of after,
          ),
          refl,
          others_left A A (gone_on A) tops root top g (acted A (Hear (uid_number top) g true l)) fixed of only refl (λ h o. refl),
          refl,
        ),
      );
    })
