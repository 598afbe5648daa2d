-- Naming's answers claim which stores the entry lists, through each step of a node.
use Rattle.arj_law_parts.proofs.Words
use Words.{◌≡◌, ◌≤◌, ◌<◌, ◌+◌, ◌*◌, ◌==◌, ℕ, Bool, true, false, List, [], ◌∷◌, Option, Some, None, refl, sym, ◌∙◌, ap, subst, inr, ⊎_elim}
use Words.{arith, map, cond, is_some, AllByRecursion, is_eq, nat_cmp, Asked, Header, Message, ObjectState, Uid, Reply, named_back}
use Words.{recovered_naming, Disk, Do, Effect, Pair, Send, Stop, Work, stopped, worked, Made, Named, Naming, listed_entry, Parts, at_number}
use Words.{at_uid, binding_number, has, uid_number, Node, parts_in, restart_outs, Post, Seen}
use Rattle.arj_law_disk_view.proofs.Terms
use Terms.{Office, Packed, is_gone, some_is, down, up, Up, Walks, halted, KnowsKinds, IsLater, Kinds, OnlyFound, SeesBoth, Change, Changes}
use Terms.{SeesNaming, AreAnswered, Tests, Left, AnswersList, IsCurrent, PassesListed, PassesLists, TellsLists, HoldsAgain, HoldsFrom}
use Rattle.arj_law_disk_view.proofs.names.GrantClaims.{changes_are_after, restarts_are_after}
use Rattle.arj_law_disk_view.proofs.running
use running.{HeardAll.walk_fits}
use running.ListedBack.{entry_same, holds_write, idle_before, stores_are, there_before}
use Rattle.arj_law_disk_view.proofs.view.Frames.{node_cases, node_here, node_other}
use Rattle.arj_law_lock_view.proofs.records
use records.{NamingKept.rest, NamingKept.rest_quiet, NamingRuns.inc_stopped, NamingRuns.inc_worked, Namings.Grows}
use records.NamingWalks.{AllClaim, Claims, NamingGoes, quiet_claims}
use records.Quiet.{AllQuiet, IncUp, IsNoWork, NoWorks, quiet_incs}
use Rattle.arj_law_lock_view.specs.records.{Claims.IsAnswer, Tests.PassesNaming}
use Rattle.arj_law_parts.specs.moves.Seen.{In}

-- ---- what passes after a step passed before

module _ (x : ℕ) (tops : Kinds) (A B : Office) (M : Seen) where
  -- the binding was current before
  current_before : (before : SeesBoth x tops A M) (N : Seen) → SeesBoth x tops B N → IsLater A.world B.world → (n p : Naming) →
      NamingGoes (Some n) (Some p) → is_some (at_number x n.objects) ≡ true → (u : Uid) (v : ℕ) →
      v ≤ binding_number (record { inc = n.inc; count = n.count })
      → IsCurrent x tops B.world.disk p u v → IsCurrent x tops A.world.disk n u v
  current_before before N then later n p grows there u v low is = by (at_number x n.objects) refl there
    where
      by : (o : Option Named) → at_number x n.objects ≡ o → is_some o ≡ true → IsCurrent x tops A.world.disk n u v
      by None none some = absurd (cc some)
      by (Some o) found some =
          let g = grows.objects x o found in
          let same : g.0 ≡ is.object = some_is g.1 is.there in record {
            object = o;
            made = is.made;
            there = found;
            of = g.2.made u is.made (ap (λ (q : Named). at_uid u q.made) same ∙ is.of) is.unrecorded
                (subst (λ w. w ≤ binding_number (record { inc = n.inc; count = n.count })) (sym is.same) low);
            unrecorded = is.unrecorded;
            same = is.same;
            is_top = is.is_top;
            works =
                idle_before A.world B.world (let s = before.disks in s.whole) (let s = then.disks in s.whole) later (uid_number u) is.works;
            rooted = subst (λ (r : ℕ → ℕ). is_gone (A.world.disk.stage (r (uid_number u))) ≡ false) later.root
                (there_before A.world B.world later (B.world.disk.root (uid_number u)) is.rooted);
          }

-- what is current was so, of naming as it is
pub still_current : (x : ℕ) (tops : Kinds) (A B : Office) (M N : Seen) → SeesBoth x tops A M → SeesBoth x tops B N →
    IsLater A.world B.world → (u : Uid) (v : ℕ) (n : Naming) → IsCurrent x tops B.world.disk n u v → IsCurrent x tops A.world.disk n u v
still_current x tops A B M N both then later u v n is = record {
  object = is.object;
  made = is.made;
  there = is.there;
  of = is.of;
  unrecorded = is.unrecorded;
  same = is.same;
  is_top = is.is_top;
  works = idle_before A.world B.world (let s = both.disks in s.whole) (let s = then.disks in s.whole) later (uid_number u) is.works;
  rooted = subst (λ (r : ℕ → ℕ). is_gone (A.world.disk.stage (r (uid_number u))) ≡ false) later.root
      (there_before A.world B.world later (B.world.disk.root (uid_number u)) is.rooted);
}

-- naming that goes on as it was
pub same_passes : (x : ℕ) (tops : Kinds) (A B : Office) (T : Tests) →
    ((u : Uid) (v : ℕ) (n : Naming) → IsCurrent x tops B.world.disk n u v → IsCurrent x tops A.world.disk n u v) →
    (d : Disk) (live : Option Parts) → PassesListed x tops B.world.disk T d live → PassesListed x tops A.world.disk T d live
same_passes x tops A B T back d None passes = passes
same_passes x tops A B T back d (Some t) passes =
    λ n named y v s low listed. passes n named y v s low (λ same u is. listed same u (back u v n is))

-- a disk's incarnation rises
up_to : (v a b : ℕ) → v < (a + 1) * 4294967296 → a ≤ b → v < (b + 1) * 4294967296
up_to v a b lt le = omega (arith, lt, le)

module _ (x : ℕ) (tops : Kinds) (k : ℕ) (d : Disk) (t : Parts) (M : Seen) (A : Office) (both : SeesBoth x tops A (up k d t M))
    (here : (n : Naming) → t.naming ≡ Some n → k ≡ 1) (there : (n : Naming) → t.naming ≡ Some n →
    is_some (at_number x n.objects) ≡ true) (short : (n : Naming) → t.naming ≡ Some n → n.count < 4294967296) where
  abbrev Here : Node
  Here = record { number = k; disk = d; live = Some t }

  at_one : (n : Naming) → t.naming ≡ Some n → (up k d t M).nodes 1 ≡ Some Here
  at_one n named = subst (λ j. (up k d t M).nodes j ≡ Some Here) (here n named) (node_here M k Here)

  memory : (n : Naming) → t.naming ≡ Some n → SeesNaming x tops n A.world.disk A.names
  memory n named = let w = both.names in w.memory Here t n (at_one n named) refl named

  inc_is : (n : Naming) → t.naming ≡ Some n → n.inc ≡ d.inc
  inc_is n named = sym (let m = memory n named in m.inc_is) ∙ (let w = both.names in w.inc Here (at_one n named))

  -- what passes once the node is down, with no lower incarnation
  pub down_before : (e : ℕ) (B : Office) (c : Disk) (N : Seen) → SeesBoth x tops B (halted e k c N) → IsLater A.world B.world →
      N.nodes ≡ M.nodes → d.inc ≤ c.inc → (T : Tests) → PassesLists x tops B.world.disk T (halted e k c N) →
      PassesLists x tops A.world.disk T (up k d t M)
  down_before e B c N then later same le T passes n at_n = ⊎_elim
      (λ (z : (1 ≡ k) × (Here ≡ n)). subst (λ (y : Node). PassesListed x tops A.world.disk T y.disk y.live) z.1
      (λ m named y v s low listed. passes (record { number = k; disk = c; live = None }) (subst (λ j. (halted e k c N).nodes j
      ≡ Some (record { number = k; disk = c; live = None })) (sym z.0) (node_here N k (record { number = k; disk = c; live = None }))) y
      v s (given v m.inc d.inc c.inc m.count low (inc_is m named) le (short m named))))
      (λ (z : ((1 == k) ≡ false) × (M.nodes 1 ≡ Some n)).
      same_passes x tops A B T (still_current x tops A B (up k d t M) (halted e k c N) both then later) n.disk n.live
      (passes n (node_other N k (record { number = k; disk = c; live = None }) 1 z.0 ∙ ap (λ f. f 1) same ∙ z.1)))
      (node_cases M k Here 1 n at_n)
    where
      given : (v i j l c : ℕ) → v ≤ i * 4294967296 + c → i ≡ j → j ≤ l → c < 4294967296 → v < (l + 1) * 4294967296
      given v i j l c low is le lt = omega (arith, low, is, le, lt)

  -- and once it has done what it does
  pub up_before : KnowsKinds tops → (o : Change) (B : Office) (c : Disk) (v : Parts) (N : Seen) → SeesBoth x tops B (up k c v N) →
      Changes o A B → NamingGoes t.naming v.naming → N.nodes ≡ M.nodes → (T : Tests) → PassesLists x tops B.world.disk T (up k c v N) →
      PassesLists x tops A.world.disk T (up k d t M)
  up_before kinds o B c v N then changed goes same T passes n at_n = ⊎_elim
      (λ (z : (1 ≡ k) × (Here ≡ n)). subst (λ (y : Node). PassesListed x tops A.world.disk T y.disk y.live) z.1 (own (sym z.0)))
      (λ (z : ((1 == k) ≡ false) × (M.nodes 1 ≡ Some n)).
      same_passes x tops A B T (still_current x tops A B (up k d t M) (up k c v N) both then later) n.disk n.live
      (passes n (node_other N k (record { number = k; disk = c; live = Some v }) 1 z.0 ∙ ap (λ f. f 1) same ∙ z.1)))
      (node_cases M k Here 1 n at_n)
    where
      later : IsLater A.world B.world
      later = let a = changes_are_after o A B both.named changed in a.later

      own : k ≡ 1 → PassesListed x tops A.world.disk T d (Some t)
      own one m named y w s low listed = by v.naming refl
        where
          there_now : (up k c v N).nodes 1 ≡ Some (record { number = k; disk = c; live = Some v })
          there_now = subst (λ j. (up k c v N).nodes j ≡ Some (record { number = k; disk = c; live = Some v })) one
              (node_here N k (record { number = k; disk = c; live = Some v }))

          by : (q : Option Naming) → v.naming ≡ q → T.listed y w s ≡ true
          by None none = absurd (subst (λ z. NamingGoes z None) named (subst (NamingGoes t.naming) none goes))
          by (Some p) at_p = passes (record { number = k; disk = c; live = Some v }) there_now p at_p y w s
              (more w m.inc m.count p.inc p.count low grows.inc grows.count) (λ same u is. let old = before u is in
              subst (λ (l : List ℕ). has l s ≡ true) (sym (stores_now u is old)) (listed same u old))
            where
              grows : Grows m p
              grows = subst (λ z. NamingGoes z (Some p)) named (subst (NamingGoes t.naming) at_p goes)

              more : (a i b j l : ℕ) → a ≤ i * 4294967296 + b → j ≡ i → b ≤ l → a ≤ j * 4294967296 + l
              more a i b j l le is up = omega (arith, le, is, up)

              before : (u : Uid) → IsCurrent x tops B.world.disk p u w → IsCurrent x tops A.world.disk m u w
              before u is = current_before x tops A B (up k d t M) both (up k c v N) then later m p grows (there m named) u w low is

              seen : SeesNaming x tops p B.world.disk B.names
              seen = let n = then.names in n.memory (record { number = k; disk = c; live = Some v }) v p there_now refl at_p

              stores_now : (u : Uid) → IsCurrent x tops B.world.disk p u w → IsCurrent x tops A.world.disk m u w →
                  (let e = listed_entry x c.names in e.stores) ≡ (let e = listed_entry x d.names in e.stores)
              stores_now u is old =
                  stores_are x tops c.names B (let s = then.disks in s.entry (record { number = k; disk = c; live = Some v }) there_now)
                  ∙ ap (λ (e : Packed). e.content) (entry_same o A B both.named then.named changed (uid_number u)
                  (holds_write x tops A both.named kinds (let s = both.disks in s.fixed) m (memory m named) u w old)
                  (holds_write x tops B then.named kinds (let s = then.disks in s.fixed) p seen u w is))
                  ∙ sym (stores_are x tops d.names A (let s = both.disks in s.entry Here (at_one m named)))

  -- ---- a walk

  module _ (kinds : KnowsKinds tops) (o : Change) (e : ℕ) (v : Parts) (outs : List Effect) (left : Left M.sent k d t v outs)
      (answers : AnswersList x tops A (up k d t M)) where
    abbrev Ok : Tests → Type 0
    Ok T = AreAnswered T M.sent × AllClaim M.sent k T outs

    -- along it the incarnation doesn't fall, the disk stays where nothing is done on it, and answers claim what they should
    abbrev Fits : Disk → List Post → Type 0
    Fits c s = (d.inc ≤ c.inc) × (NoWorks outs → c ≡ d) × ((p : Post) → In p M.sent → In p s) × ((T : Tests) → Ok T → AreAnswered T s)

    abbrev Fine : Effect → Type 0
    Fine f = ((T : Tests) → Ok T → Claims M.sent k T f) × IncUp d.inc f × (NoWorks outs → IsNoWork f)

    all_fine : (es : List Effect) → ((T : Tests) → Ok T → AllClaim M.sent k T es) → AllByRecursion (IncUp d.inc) es →
        (NoWorks outs → NoWorks es) → AllByRecursion Fine es
    all_fine [] claims incs idle = tt
    all_fine (f ∷ es) claims incs idle =
        ((λ T ok. (claims T ok).0, incs.0, λ none. (idle none).0), all_fine es (λ T ok. (claims T ok).1) incs.1 (λ none. (idle none).1))

    works : (w : Work) → Fine (Do w) → (c : Disk) (s : List Post) → Fits c s →
        ((how : Stop) → Fits (stopped how w c) s) × Fits (worked w c) s
    works w fine c s fits = (
      λ how. (inc_stopped d.inc how w c fine.1 fits.0, λ none. absurd (fine.2 none), fits.2, fits.3),
      (inc_worked d.inc w c fine.1 fits.0, λ none. absurd (fine.2 none), fits.2, fits.3),
    )

    sends : (to : ℕ) (m : Message) → Fine (Send to m) → (c : Disk) (s : List Post) → Fits c s →
        Fits c (record { from = k; to = to; message = m } ∷ s)
    sends to m fine c s fits = (fits.0, fits.1, λ p i. inr (fits.2 p i), λ T ok. (λ a r is. widen T a r (fine.0 T ok a r is), fits.3 T ok))
      where
        widen : (T : Tests) (a : Asked) (r : Reply) → IsAnswer T M.sent (record { from = k; to = to; message = m }) a r →
            IsAnswer T s (record { from = k; to = to; message = m }) a r
        widen T a r z = record {
          post = z.post;
          head = z.head;
          ask = z.ask;
          posted = fits.2 z.post z.posted;
          from = z.from;
          asking = z.asking;
          asker = z.asker;
          so = z.so;
        }

    its_naming : (n : Naming) → v.naming ≡ Some n → (m : Naming) × (t.naming ≡ Some m)
    its_naming n at_n = by t.naming refl
      where
        by : (q : Option Naming) → t.naming ≡ q → (m : Naming) × (q ≡ Some m)
        by None none = absurd (subst (λ z. NamingGoes None z) at_n (subst (λ z. NamingGoes z v.naming) none left.naming))
        by (Some m) is = (m, refl)

    named_passes : (T : Tests) → TellsLists T → (n : Naming) → PassesNaming T n
    named_passes T tells n = record {
      made = λ w le. tells.made w;
      objects = λ y q at. record { recorded = λ b w is le. tells.past y w; asked = λ u on. tells.asked y u n.inc };
    }

    stop : (c : Disk) (N : Seen) → N.nodes ≡ M.nodes → Fits c N.sent → HoldsFrom (AnswersList x) x tops o A (halted e k c N)
    stop c N same fits B changed then T tells passes = fits.3 T (
      answers T tells (down_before e B c N then (let a = changes_are_after o A B both.named changed in a.later) same fits.0 T passes),
      left.down T (λ n named. tells.low d.inc) (λ n named. record {
        made = λ w lt. tells.made w;
        past = λ y w lt. tells.past y w;
        asked = λ y u i lt. tells.asked y u i;
        listed = λ y w s lt. passes (record { number = k; disk = c; live = None })
            (subst (λ j. (halted e k c N).nodes j ≡ Some (record { number = k; disk = c; live = None })) (here n named)
            (node_here N k (record { number = k; disk = c; live = None }))) y w s (up_to w d.inc c.inc lt fits.0);
      }),
    )

    end : (c : Disk) (N : Seen) → N.nodes ≡ M.nodes → Fits c N.sent → Up (HoldsFrom (AnswersList x) x tops o A) k v c N
    end c N same fits B changed then T tells passes = fits.3 T (
      answers T tells (up_before kinds o B c v N then changed left.naming same T passes),
      left.up T (λ n named. tells.low d.inc) (λ p at_p. (
        named_passes T tells p,
        λ none y w s low listed. passes (record { number = k; disk = c; live = Some v })
            (subst (λ j. (up k c v N).nodes j ≡ Some (record { number = k; disk = c; live = Some v })) (let m = its_naming p at_p in
            here m.0 m.1) (node_here N k (record { number = k; disk = c; live = Some v }))) p at_p y w s low
            (λ same u is. subst (λ (z : Disk). has (let q = listed_entry x z.names in q.stores) s ≡ true) (sym (fits.1 none))
            (subst (λ j. has (let q = listed_entry j d.names in q.stores) s ≡ true) same listed)),
      )),
    )

    pub listed_walk : (L : Seen) → L.nodes ≡ M.nodes → L.sent ≡ M.sent →
        Walks (HoldsFrom (AnswersList x) x tops o A) e k outs (Up (HoldsFrom (AnswersList x) x tops o A) k v) d L
    listed_walk L nodes sent = walk_fits (HoldsFrom (AnswersList x) x tops o A) (Up (HoldsFrom (AnswersList x) x tops o A) k v) e k M.nodes
        Fits Fine works sends stop end outs
        (all_fine outs (λ T ok. ok.1) left.incs (λ none. none)) d L nodes
        (subst (Fits d) (sym sent) (omega arith, λ none. refl, λ p i. i, λ T ok. ok.0))

-- ---- a restart

-- as naming starts no binding was made
none_made : (inc : ℕ) (d : Pair) (x : ℕ) (o : Named) (u : Uid) (m : Made) →
    at_number x (let n = recovered_naming inc d in n.objects) ≡ Some o → at_uid u o.made ≡ Some m → ⊥
none_made inc d x o u m is at_u = by d.held is
  where
    by : (held : List (Uid × ObjectState)) → at_number x (map (named_back d) held) ≡ Some o → ⊥
    by [] e = absurd (cc e)
    by (h ∷ hs) e = one (is_eq (nat_cmp x (named_back d h).0)) e (by hs)
      where
        one : (b : Bool) → cond b (Some (named_back d h).1) (at_number x (map (named_back d) hs)) ≡ Some o →
            (at_number x (map (named_back d) hs) ≡ Some o → ⊥) → ⊥
        one true f ih = let no_way : ◌≡◌ {A = Option Made} None (Some m) = ap (λ (z : Named). at_uid u z.made) (some_is {A = Named} refl f)
            ∙ at_u in cc no_way
        one false f ih = ih f

module _ (x : ℕ) (tops : Kinds) (hd : Header) (e k : ℕ) (d : Disk) (M : Seen) (A : Office) (both : SeesBoth x tops A (down k d M)) (g : ℕ →
    Bool) (answers : AnswersList x tops A (down k d M)) where
  abbrev Down : Node
  Down = record { number = k; disk = d; live = None }

  abbrev Holds : Seen → Type 0
  Holds N = HoldsAgain (AnswersList x) x tops g A N

  abbrev Goes_on : Disk → List Post → Type 0
  Goes_on c s = (d.inc ≤ c.inc) × ((T : Tests) → AreAnswered T M.sent → AreAnswered T s)

  -- another node is as it was
  others_same : (B : Office) (N : Seen) → SeesBoth x tops B N → IsLater A.world B.world → (T : Tests) (n : Node) →
      PassesListed x tops B.world.disk T n.disk n.live → PassesListed x tops A.world.disk T n.disk n.live
  others_same B N then later T n = same_passes x tops A B T (still_current x tops A B (down k d M) N both then later) n.disk n.live

  later_by : (B : Office) → OnlyFound g A B → IsLater A.world B.world
  later_by B found = let a = restarts_are_after g A B both.named found in a.later

  stop_again : (c : Disk) (N : Seen) → N.nodes ≡ M.nodes → Goes_on c N.sent → Holds (halted e k c N)
  stop_again c N same fits B found then T tells passes = fits.1 T (answers T tells (λ n at_n. ⊎_elim
      (λ (z : (1 ≡ k) × (Down ≡ n)). subst (λ (y : Node). PassesListed x tops A.world.disk T y.disk y.live) z.1
      (λ y v s lt. passes (record { number = k; disk = c; live = None })
      (subst (λ j. (halted e k c N).nodes j ≡ Some (record { number = k; disk = c; live = None })) (sym z.0)
      (node_here N k (record { number = k; disk = c; live = None }))) y v s (up_to v d.inc c.inc lt fits.0)))
      (λ (z : ((1 == k) ≡ false) × (M.nodes 1 ≡ Some n)). others_same B (halted e k c N) then (later_by B found) T n
      (passes n (node_other N k (record { number = k; disk = c; live = None }) 1 z.0 ∙ ap (λ f. f 1) same ∙ z.1)))
      (node_cases M k Down 1 n at_n)))

  end_again : (c : Disk) (N : Seen) → N.nodes ≡ M.nodes → Goes_on c N.sent → Up Holds k (parts_in k (d.inc + 1) d) c N
  end_again c N same fits B found then T tells passes = fits.1 T (answers T tells (λ n at_n. ⊎_elim
      (λ (z : (1 ≡ k) × (Down ≡ n)). subst (λ (y : Node). PassesListed x tops A.world.disk T y.disk y.live) z.1 (λ y v s lt. passes back
      (subst (λ j. (up k c v_again N).nodes j ≡ Some back) (sym z.0) (node_here N k back)) (recovered_naming (d.inc + 1) d.names) (ap
      (λ j. cond (j == 1) (Some (recovered_naming (d.inc + 1) d.names)) None) (sym z.0)) y v s (under v ((d.inc + 1) * 4294967296) lt)
      (λ is u now. absurd (none_made (d.inc + 1) d.names x now.object u now.made now.there now.of))))
      (λ (z : ((1 == k) ≡ false) × (M.nodes 1 ≡ Some n)).
      others_same B (up k c v_again N) then (later_by B found) T n (passes n (node_other N k back 1 z.0 ∙ ap (λ f. f 1) same ∙ z.1)))
      (node_cases M k Down 1 n at_n)))
    where
      v_again : Parts
      v_again = parts_in k (d.inc + 1) d

      back : Node
      back = record { number = k; disk = c; live = Some (parts_in k (d.inc + 1) d) }

      under : (a b : ℕ) → a < b → a ≤ b + 0
      under a b lt = omega (arith, lt)

  pub listed_again : Walks Holds e k (restart_outs hd k (d.inc + 1) d) (Up Holds k (parts_in k (d.inc + 1) d)) d M
  listed_again =
      walk_fits Holds (Up Holds k (parts_in k (d.inc + 1) d)) e k M.nodes Goes_on (λ f. ((T : Tests) → Claims [] k T f) × IncUp d.inc f)
      (λ w fine c s fits. (λ how. (inc_stopped d.inc how w c fine.1 fits.0, fits.1), (inc_worked d.inc w c fine.1 fits.0, fits.1)))
      (λ to m fine c s fits. (fits.0, λ T old. (λ a r is. absurd (nothing (fine.0 T a r is)), fits.1 T old)))
      stop_again end_again (restart_outs hd k (d.inc + 1) d)
      ((λ T. tt, tt), ((λ T. tt, omega arith), all_said (rest hd k d) (rest_quiet hd k d))) d M refl (omega arith, λ T old. old)
    where
      nothing : {T : Tests} {p : Post} {a : Asked} {r : Reply} → IsAnswer T [] p a r → ⊥
      nothing z = z.posted

      all_said : (es : List Effect) → AllQuiet es → AllByRecursion (λ f. ((T : Tests) → Claims [] k T f) × IncUp d.inc f) es
      all_said [] q = tt
      all_said (f ∷ es) q = ((λ T. (quiet_claims [] k T (f ∷ es) q).0, (quiet_incs d.inc (f ∷ es) q).0), all_said es q.1)
