-- What is known of Records and Confirms stays so as a coordinator sends what its actions wait for.
use Rattle.arj_law_parts.proofs.Words
use Words.{◌≡◌, ◌≢◌, ◌⊎◌, ◌∙◌, ◌≤◌, ◌||◌, ◌==◌, ℕ, zero, suc, Bool, true, false, not, filter, map, length, List, [], ◌∷◌, Option, Some}
use Words.{refl, sym, ap, subst, inl, inr, ⊎_elim, arith, eqb-true, ◌++◌, is_some, flat_map, and_parts, uid_cases, in_filter, in_map, Ask}
use Words.{Binding, Head, Message, Uid, asks, first_uid, front, is_on, uids_of, actor, top_of, At, AtActivate, AtBind, AtInvoke, AtLoad}
use Words.{AtNote, Goal, Include, Run, ask_at, Confirming, Machine, Plan, Preparing, Used, Voting, ask_of, included_of, is_marked}
use Words.{joins_left, plan_of, Grants, Marks, Calling, Committing, Coord, Doing, Idle, Now, Root, doing_of, keeping_of, root_at, Send}
use Words.{binding_number, has, Branch, Tree, branch_of, is_own, root_of, Post}
use Words.list
use Words.ask
use Rattle.arj_law_lock_view.proofs.Terms
use Terms.{Action, AreBegun, action_of, paths_of, IsSettled, IsAsking, IsBusy, IsGoodCoord, IsVoting, IsTree, Paths, HasLists, begun_tree}
use Terms.{on_own, above_of, found_by, over_below, shorter, bare, IsSentBy, SendsSo, some_is, AreFitting, HasIncluded, IsConfirm, IsMarked}
use Terms.{SentAreKnown, AreRecorded, HasNumber, IsOrdered, IsPlanSo, KnowsKept, KnowsRecords, KnowsSent, StepStands, has_store, height}
use Terms.{top_number, Tests}
use Rattle.arj_law_lock_view.proofs.{facts.LowGrants.map_in, records.Tops.above_there, records.Tops.top_on, records.Tops.top_there}
use Rattle.arj_law_lock_view.specs.records.Claims.{AreByOwn, ConfirmsSettle, SaysAsk}
use Rattle.arj_law_parts.specs.{moves.Seen.In, parts.Coords.IsCommitting, parts.Coords.IsOver}

never : {A : Type 0} {b : Bool} → b ≡ true → b ≡ false → A
never holds fails = let no_way : true ≡ false = sym holds ∙ fails in absurd (cc no_way)

own_node : (u : Uid) (t : Tree) → is_own u t ≡ true → u.node ≡ t.node
own_node u t own = eqb-true u.node t.node (and_parts (u.node == t.node) (u.inc == t.inc) own).0

second : (a : Bool) {b : Bool} → b ≡ true → (a || b) ≡ true
second true on = refl
second false on = on

in_either : {A : Type 0} (a : A) (xs ys : List A) → list.In a (xs ++ ys) → list.In a xs ⊎ list.In a ys
in_either a [] ys i = inr i
in_either a (x ∷ xs) ys (inl same) = inl (inl same)
in_either a (x ∷ xs) ys (inr i) = ⊎_elim (λ l. inl (inr l)) (λ r. inr r) (in_either a xs ys i)

in_flat : {A B : Type 0} (f : A → List B) (b : B) (xs : List A) → list.In b (flat_map f xs) → (x : A) × list.In x xs × list.In b (f x)
in_flat f b [] i = absurd i
in_flat f b (x ∷ xs) i =
    ⊎_elim (λ here. (x, inl refl, here)) (λ rest. let q = in_flat f b xs rest in (q.0, inr q.1, q.2)) (in_either b (f x) (flat_map f xs) i)

in_has : (n : ℕ) (ns : List ℕ) → list.In n ns → has ns n ≡ true
in_has n [] i = absurd i
in_has n (m ∷ ns) (inl is) = λ j. same m n is j || has ns n
  where
    same : (a b : ℕ) → a ≡ b → (a == b) ≡ true
    same a b e = grind (arith, e)
in_has n (m ∷ ns) (inr i) = second (m == n) (in_has n ns i)

-- ---- what steps and commits ask

no_record_of : (m : Machine) (to x : ℕ) (b : Binding) (i g : ℕ) → ask.Record x b i g ≡ ask_of m to → ⊥
no_record_of (Voting p left) to x b i g is = cc is
no_record_of (Preparing p left) to x b i g is = cc is
no_record_of (Confirming p) to x b i g is = cc is

no_confirm_at : (x : ℕ) (o : Goal) (at : At) (grants : Grants) (ex inc : Marks) → ask.Confirm grants ex inc ≡ ask_at x o [] at → ⊥
no_confirm_at x o (AtBind avoid) grants ex inc is = cc is
no_confirm_at x o (AtLoad z n rest) grants ex inc is = cc is
no_confirm_at x o (AtActivate z st) grants ex inc is = cc is
no_confirm_at x o (AtNote z i) grants ex inc is = cc is
no_confirm_at x o (AtInvoke z i) grants ex inc is = cc is

-- a Confirm is of a plan
confirm_of : (m : Machine) (to : ℕ) (grants : Grants) (ex inc : Marks) → ask.Confirm grants ex inc ≡ ask_of m to →
    (grants ≡ map (λ (u : Used). (u.x, u.grant)) (plan_of m).used) × (ex ≡ (plan_of m).excluded) × (inc ≡ included_of (plan_of m))
confirm_of (Voting p left) to grants ex inc is = absurd (cc is)
confirm_of (Preparing p left) to grants ex inc is = absurd (cc is)
confirm_of (Confirming p) to grants ex inc is = (ap grants_in is, ap excluded_in is, ap included_in is)
  where
    grants_in : Ask → Grants
    grants_in (ask.Confirm g e i) = g
    grants_in _ = []

    excluded_in : Ask → Marks
    excluded_in (ask.Confirm g e i) = e
    excluded_in _ = []

    included_in : Ask → Marks
    included_in (ask.Confirm g e i) = i
    included_in _ = []

-- ---- roots of paths

first_front : (us : List Uid) (u : Uid) → is_on (front us) u ≡ true → first_uid (front us) ≡ first_uid us
first_front [] u on = absurd (cc on)
first_front (x ∷ []) u on = absurd (cc on)
first_front (x ∷ y ∷ rest) u on = refl

roots_same : (paths : Paths) → IsTree paths → (t : Tree) → HasLists paths t → (u : Uid) (n : ℕ) (w : Uid) (b : Branch) →
    length (paths w) ≤ n → branch_of w t ≡ Some b → is_on (paths w) u ≡ true → first_uid (paths w) ≡ first_uid (paths u)
roots_same paths tree t lists u zero w b short there on = absurd (empty (paths w) short on)
  where
    empty : (us : List Uid) → length us ≤ 0 → is_on us u ≡ true → ⊥
    empty [] le o = let no_way : false ≡ true = o in cc
    empty (x ∷ us) le o = absurd (omega (arith, le))
roots_same paths tree t lists u (suc n) w b short there on = ⊎_elim
    (λ same. ap (λ z. first_uid (paths z)) same)
    (λ other. let f = above_of paths tree t lists u w b there on other in let p = lists.parents w f.0 b there f.1 in
    sym (first_front (paths w) u (ap (λ us. is_on us u) f.3 ∙ f.2)) ∙ ap first_uid f.3
    ∙ roots_same paths tree t lists u n f.0 p.0 (shorter paths tree t lists w f.0 n f.1 f.3 short) p.1 f.2)
    (uid_cases w u)

-- ---- who asks

module _ (acts : List Action) (begun : AreBegun acts) (k : ℕ) (sent : List Post) (c : Coord) (good : IsGoodCoord acts (paths_of acts) c)
    (its : KnowsSent sent k c) where
  abbrev paths : Paths
  paths = paths_of acts

  tree : IsTree (paths_of acts)
  tree = begun_tree acts begun

  asking : (to : ℕ) (h : Head) (a : Ask) → IsSentBy c to h a → IsAsking c.tree (actor h.path) h.path
  asking to h a s = by (let d = s.doing in d.now) refl
    where
      by : (n : Now) → (let d = s.doing in d.now) ≡ n → IsAsking c.tree (actor h.path) h.path
      by Idle is = absurd (s.busy is)
      by (Calling z) is =
          let o = s.step z is in
          let v : IsAsking c.tree (actor h.path) z.path = subst (IsBusy c.tree (actor h.path)) is
          (good.busy (actor h.path) s.doing s.found) in
          subst (IsAsking c.tree (actor h.path)) (sym (ap (λ (q : Head). q.path) o.head)) v
      by (Committing m) is =
          let o = s.commit m is in
          let v : IsVoting c.tree (actor h.path) (plan_of m) = subst (IsBusy c.tree (actor h.path)) is
          (good.busy (actor h.path) s.doing s.found) in
          subst (IsAsking c.tree (actor h.path)) (sym o.path) v.asking

  -- its top has its branch, at its root
  module _ (h : Head) (a : IsAsking c.tree (actor h.path) h.path) where
    abbrev top : Uid
    top = top_of h.path

    on_path : is_on (uids_of h.path) top ≡ true
    on_path = top_there acts begun h.path (action_of a.branch, good.known (actor h.path) a.branch a.found, a.path, a.unserial)

    paths_are : uids_of h.path ≡ paths (actor h.path)
    paths_are = sym (ap uids_of a.path) ∙ good.tree.lists.paths_are (actor h.path) a.branch a.found

    on : is_on (paths (actor h.path)) top ≡ true
    on = sym (ap (λ us. is_on us top) paths_are) ∙ on_path

    top_found : (q : Branch) × (branch_of top c.tree ≡ Some q)
    top_found =
        above_there paths tree c.tree good.tree.lists top (length (paths (actor h.path))) (actor h.path) a.branch (omega arith) a.found on

    top_own : is_own top c.tree ≡ true
    top_own = (found_by top c.tree top_found.0 top_found.1).0

    top_root : (let q = top_found.0 in root_of q.path) ≡ root_of h.path
    top_root = ap first_uid (good.tree.lists.paths_are top top_found.0 top_found.1) ∙ sym (roots_same paths tree c.tree good.tree.lists top
        (length (paths (actor h.path))) (actor h.path) a.branch (omega arith) a.found on) ∙ sym (ap first_uid paths_are)

    not_over : IsOver top c.tree → ⊥
    not_over o =
        never (over_below paths tree c.tree good.tree.lists good.tree.closed top o.0 o.1 o.2 (actor h.path) a.branch a.found on) a.opened

  -- who asks to record isn't at the commit of its top
  not_committing : (to : ℕ) (h : Head) (x : ℕ) (b : Binding) (i g : ℕ) → IsSentBy c to h (ask.Record x b i g) →
      IsCommitting (top_of h.path) c → ⊥
  not_committing to h x b i g s (d, m, found, now) = ⊎_elim same other (uid_cases (actor h.path) (top_of h.path))
    where
      a : IsAsking c.tree (actor h.path) h.path
      a = asking to h (ask.Record x b i g) s

      v : IsVoting c.tree (top_of h.path) (plan_of m)
      v = subst (IsBusy c.tree (top_of h.path)) now (good.busy (top_of h.path) d found)

      same : actor h.path ≡ top_of h.path → ⊥
      same is = no_record_of m to x b i g
          (let o = s.commit m (ap (λ (z : Doing). z.now) (some_is (sym s.found ∙ ap (λ u. doing_of u c) is ∙ found)) ∙ now) in o.same)

      other : actor h.path ≢ top_of h.path → ⊥
      other apart =
          let listed = v.below (actor h.path) a.branch a.found (ap (λ p. is_on (uids_of p) (top_of h.path)) a.path ∙ on_path h a) apart in
          let o = v.over (actor h.path) listed in
          never o.2 (ap (λ (z : Branch). is_some z.ended) (some_is (sym o.1 ∙ a.found)) ∙ a.opened)

  not_settled : (to : ℕ) (h : Head) (x : ℕ) (b : Binding) (i g : ℕ) → IsSentBy c to h (ask.Record x b i g) → IsSettled (top_of h.path) c → ⊥
  not_settled to h x b i g s (inl o) = not_over h (asking to h (ask.Record x b i g) s) o
  not_settled to h x b i g s (inr w) = not_committing to h x b i g s w

  -- no Confirm of its top was sent
  no_confirm : AreByOwn sent → (to : ℕ) (h : Head) (x : ℕ) (b : Binding) (i g : ℕ) → IsSentBy c to h (ask.Record x b i g) →
      (grants : Grants) (ex inc : Marks) → IsConfirm sent (top_of h.path) grants ex inc → ⊥
  no_confirm own to h x b i g s grants ex inc q = not_settled to h x b i g s (subst (λ u. IsSettled u c) q.actor_is
      (its.settled q.post q.head grants ex inc q.posted from q.asking (ap (λ u. is_own u c.tree) q.actor_is ∙ mine)))
    where
      mine : is_own (top_of h.path) c.tree ≡ true
      mine = top_own h (asking to h (ask.Record x b i g) s)

      from : q.post.from ≡ k
      from = sym (own q.post q.head (ask.Confirm grants ex inc) q.posted q.asking) ∙ ap (λ (u : Uid). u.node) q.top_is
          ∙ own_node (top_of h.path) c.tree mine ∙ its.node

  -- ---- what is asked

  module _ (T : Tests) (knows : KnowsRecords T sent k c) where
    step_says : (r : Root) (x : ℕ) (who : Uid) (o : Goal) (at : At) → IsOrdered T x (keeping_of x r) → StepStands T o x who r at →
        SaysAsk T (ask_at x o [] at)
    step_says r x who (Run o) (AtBind b) ordered stands = subst (λ n. T.made n ≡ true) (sym stands) ordered.avoid
    step_says r x who (Run o) (AtLoad z n rest) ordered stands = tt
    step_says r x who (Run o) (AtActivate z st) ordered stands = tt
    step_says r x who (Run o) (AtNote z i) ordered stands = stands.1
    step_says r x who (Run o) (AtInvoke z i) ordered stands = tt
    step_says r x who (Include n) (AtBind b) ordered stands = stands
    step_says r x who (Include n) (AtLoad z m rest) ordered stands = tt
    step_says r x who (Include n) (AtActivate z st) ordered stands = tt
    step_says r x who (Include n) (AtNote z i) ordered stands = absurd stands
    step_says r x who (Include n) (AtInvoke z i) ordered stands = tt

    step_notes : (r : Root) (y : ℕ) (who : Uid) (o : Goal) (at : At) (x : ℕ) (b : Binding) (i g : ℕ) → StepStands T o y who r at →
        ask.Record x b i g ≡ ask_at y o [] at → binding_number b ≤ height (keeping_of x r)
    step_notes r y top o (AtBind z) x b i g stands is = absurd (cc is)
    step_notes r y top o (AtLoad z n rest) x b i g stands is = absurd (cc is)
    step_notes r y top o (AtActivate z st) x b i g stands is = absurd (cc is)
    step_notes r y top o (AtInvoke z j) x b i g stands is = absurd (cc is)
    step_notes r y who (Include n) (AtNote z j) x b i g stands is = absurd stands
    step_notes r y who (Run o) (AtNote z j) x b i g stands is = by stands.0
      where
        object_in : Ask → ℕ
        object_in (ask.Record w e n m) = w
        object_in _ = 0

        binding_in : Ask → Binding
        binding_in (ask.Record w e n m) = e
        binding_in _ = b

        at_most : (a n : ℕ) → a ≡ n → a ≤ n
        at_most a n same = omega (arith, same)

        by : HasNumber (keeping_of y r).kept z → binding_number b ≤ height (keeping_of x r)
        by (old, kept, number) = at_most (binding_number b) (height (keeping_of x r)) (ap (λ q. binding_number (binding_in q)) is ∙ sym
            number ∙ ap (λ w. top_number w (keeping_of y r).avoid) (sym kept) ∙ ap (λ q. height (keeping_of (object_in q) r)) (sym is))

    says : (to : ℕ) (h : Head) (a : Ask) → IsSentBy c to h a → SaysAsk T a
    says to h a s = by (let d = s.doing in d.now) refl
      where
        commit_says : (m : Machine) → SaysAsk T (ask_of m to)
        commit_says (Voting p left) = tt
        commit_says (Preparing p left) = tt
        commit_says (Confirming p) = tt

        bare_says : (q : Ask) → SaysAsk T (bare q) → SaysAsk T q
        bare_says (ask.Bind x i avoid) so = so
        bare_says (ask.Load x) so = so
        bare_says (ask.Activate b st) so = so
        bare_says (ask.Record x b i g) so = so
        bare_says (ask.Invoke x b i ends op) so = so
        bare_says (ask.Vote i ties ends) so = so
        bare_says (ask.Prepare states) so = so
        bare_says (ask.Confirm grants ex inc) so = so

        by : (n : Now) → (let d = s.doing in d.now) ≡ n → SaysAsk T a
        by Idle is = absurd (s.busy is)
        by (Calling z) is = let o = s.step z is in bare_says a (subst (SaysAsk T) (sym o.same) (step_says (root_at (root_of z.path) c) z.x
            (top_of z.path) z.goal z.at (knows.kept.keeps (root_of z.path) z.x) (knows.kept.steps (actor h.path) s.doing z s.found is)))
        by (Committing m) is = let o = s.commit m is in subst (SaysAsk T) (sym o.same) (commit_says m)

    notes : (to : ℕ) (h : Head) (x : ℕ) (b : Binding) (i g : ℕ) → IsSentBy c to h (ask.Record x b i g) →
        binding_number b ≤ height (keeping_of x (root_at (root_of h.path) c))
    notes to h x b i g s = by (let d = s.doing in d.now) refl
      where
        by : (n : Now) → (let d = s.doing in d.now) ≡ n → binding_number b ≤ height (keeping_of x (root_at (root_of h.path) c))
        by Idle is = absurd (s.busy is)
        by (Calling z) is = let o = s.step z is in
            subst (λ (q : Head). binding_number b ≤ height (keeping_of x (root_at (root_of q.path) c))) (sym o.head) (step_notes (root_at
            (root_of z.path) c) z.x (top_of z.path) z.goal z.at x b i g (knows.kept.steps (actor h.path) s.doing z s.found is) o.same)
        by (Committing m) is = absurd (no_record_of m to x b i g (let o = s.commit m is in o.same))

    -- what a Confirm marks
    marked_so : (u : Uid) (p : Plan) (x : ℕ) → IsPlanSo T sent k u p → IsMarked x p.excluded (included_of p) →
        AreRecorded T sent k u x ⊎ HasIncluded T x u (map (λ (w : Used). (w.x, w.grant)) p.used)
    marked_so u p x so (m, either, is) = ⊎_elim excluded included either
      where
        of_used : (w : Used) (n : ℕ) → list.In w p.used → w.x ≡ x → has_store w n ≡ true →
            AreRecorded T sent k u x ⊎ HasIncluded T x u (map (λ (w : Used). (w.x, w.grant)) p.used)
        of_used w n i same on = ⊎_elim
            (λ asked. inr (
              w.grant,
              asked.0,
              subst (λ y. list.In {X = ℕ × ℕ} (y, w.grant) (map (λ (v : Used). (v.x, v.grant)) p.used)) same
                  (map_in (λ (v : Used). (v.x, v.grant)) w p.used i),
              asked.1,
              subst (λ y. T.asked y u asked.0 ≡ true) same asked.2,
            ))
            (λ rec. inl (subst (AreRecorded T sent k u) same rec)) (so.used w n i on)

        excluded : list.In m p.excluded → AreRecorded T sent k u x ⊎ HasIncluded T x u (map (λ (w : Used). (w.x, w.grant)) p.used)
        excluded i = let f = so.marks m i in of_used f.0 f.1 f.2 (f.3 ∙ is) f.4

        included : list.In m (included_of p) → AreRecorded T sent k u x ⊎ HasIncluded T x u (map (λ (w : Used). (w.x, w.grant)) p.used)
        included i =
            let f = in_flat (joins_left p) m p.used i in
            let g = in_map (λ n. ((f.0).x, n)) m (filter (λ n. not (is_marked (f.0).x n p)) (f.0).joins) f.2 in
            let w = f.0 in
            of_used w g.0 f.1 (ap (λ (q : ℕ × ℕ). q.0) g.2 ∙ is)
            (second (has w.stores g.0) (in_has g.0 w.joins (in_filter (λ n. not (is_marked w.x n p)) g.0 w.joins g.1).0))

  -- ---- one message more

  module _ (to : ℕ) (m : Message) (so : SendsSo c (Send to m)) (all : SentAreKnown sent) (each : (T : Tests) → AreFitting T sent →
      KnowsRecords T sent k c) where
    abbrev post : Post
    post = record { from = k; to = to; message = m }

    less : (T : Tests) → AreFitting T (post ∷ sent) → AreFitting T sent
    less T fit = record { zero = fit.zero; down = fit.down; answered = fit.answered.1 }

    as_sent : (p : Post) (h : Head) (a : Ask) → post ≡ p → asks p.message ≡ Some (h, a) → IsSentBy c to h a
    as_sent p h a same is = so h a (ap (λ (z : Post). asks z.message) same ∙ is)

    node_of : (h : Head) (a : Ask) → IsSentBy c to h a → (top_of h.path).node ≡ k
    node_of h a s = own_node (top_of h.path) c.tree (top_own h (asking to h a s)) ∙ its.node

    pub sent_more : KnowsSent (post ∷ sent) k c
    sent_more = record { node = its.node; rooted = rooted; settled = settled }
      where
        rooted : (p : Post) (h : Head) (x : ℕ) (b : Binding) (i g : ℕ) → In p (post ∷ sent) → p.from ≡ k →
            asks p.message ≡ Some (h, ask.Record x b i g) → is_own (top_of h.path) c.tree ≡ true →
            (q : Branch) × (branch_of (top_of h.path) c.tree ≡ Some q) × (root_of q.path ≡ root_of h.path)
        rooted p h x b i g (inr old) from is own = its.rooted p h x b i g old from is own
        rooted p h x b i g (inl same) from is own = let a = asking to h (ask.Record x b i g) (as_sent p h (ask.Record x b i g) same is) in
            let q = top_found h a in (q.0, q.1, top_root h a)

        settled : (p : Post) (h : Head) (grants : Grants) (ex inc : Marks) → In p (post ∷ sent) → p.from ≡ k →
            asks p.message ≡ Some (h, ask.Confirm grants ex inc) → is_own (actor h.path) c.tree ≡ true → IsSettled (actor h.path) c
        settled p h grants ex inc (inr old) from is own = its.settled p h grants ex inc old from is own
        settled p h grants ex inc (inl same) from is own = let s = as_sent p h (ask.Confirm grants ex inc) same is in by s s.doing.now refl
          where
            by : (s : IsSentBy c to h (ask.Confirm grants ex inc)) (n : Now) → (let d = s.doing in d.now) ≡ n → IsSettled (actor h.path) c
            by s Idle at = absurd (s.busy at)
            by s (Calling z) at = absurd (no_confirm_at z.x z.goal z.at grants ex inc (let o = s.step z at in o.same))
            by s (Committing q) at = inr (s.doing, q, s.found, at)

    pub records_more : (T : Tests) → AreFitting T (post ∷ sent) → KnowsRecords T (post ∷ sent) k c
    records_more T fit = record {
      kept = kept_more knows.kept;
      plans = λ u d q found now. plan_more u (plan_of q) (d, q, found, now) (knows.plans u d q found now);
    }
      where
        knows : KnowsRecords T sent k c
        knows = each T (less T fit)

        kept_more : KnowsKept c T sent c → KnowsKept c T (post ∷ sent) c
        kept_more kept = record {
          keeps = kept.keeps;
          said = kept.said;
          joined = kept.joined;
          states = kept.states;
          steps = kept.steps;
          records = λ p h x b i g there from is own. ⊎_elim (λ same. notes T knows to h x b i g (as_sent p h (ask.Record x b i g) same is))
              (λ old. kept.records p h x b i g old from is own) there;
        }

        plan_more : (u : Uid) (p : Plan) → IsCommitting u c → IsPlanSo T sent k u p → IsPlanSo T (post ∷ sent) k u p
        plan_more u p at plan = record {
          used = λ w n i on. ⊎_elim (λ asked. inl asked) (λ rec. inr (λ q h b j g there from is of. ⊎_elim (λ same. absurd
              (not_committing to h w.x b j g (as_sent q h (ask.Record w.x b j g) same is) (subst (λ v. IsCommitting v c) (sym of) at)))
              (λ old. rec q h b j g old from is of) there)) (plan.used w n i on);
          loaded = plan.loaded;
          marks = plan.marks;
        }

    pub all_more : SentAreKnown (post ∷ sent)
    all_more = record {
      senders = λ p h a there is.
          ⊎_elim (λ same. node_of h a (as_sent p h a same is) ∙ ap (λ (z : Post). z.from) same) (λ old. all.senders p h a old is) there;
      tops = λ p h grants ex inc there is. ⊎_elim (λ same. confirm_top p h grants ex inc (as_sent p h (ask.Confirm grants ex inc) same is))
          (λ old. all.tops p h grants ex inc old is) there;
      first =
          (λ h x b i g is grants ex inc q. no_confirm all.senders to h x b i g (so h (ask.Record x b i g) is) grants ex inc q, all.first);
      claims = λ T fit. (
        λ p h a there is. ⊎_elim (λ same. says T (each T (less T fit)) to h a (as_sent p h a same is))
            (λ old. (all.claims T (less T fit)).0 p h a old is) there,
        settles T fit,
      );
    }
      where
        confirm_top : (p : Post) (h : Head) (grants : Grants) (ex inc : Marks) → IsSentBy c to h (ask.Confirm grants ex inc) →
            actor h.path ≡ top_of h.path
        confirm_top p h grants ex inc s = by s.doing.now refl
          where
            by : (n : Now) → s.doing.now ≡ n → actor h.path ≡ top_of h.path
            by Idle at = absurd (s.busy at)
            by (Calling z) at = absurd (no_confirm_at z.x z.goal z.at grants ex inc (let o = s.step z at in o.same))
            by (Committing q) at =
                let o = s.commit q at in
                let v : IsVoting c.tree (actor h.path) (plan_of q) = subst (IsBusy c.tree (actor h.path))
                at (good.busy (actor h.path) s.doing s.found) in
                let a = v.asking in
                let b = a.branch in
                let there = good.known (actor h.path) b a.found in
                ap actor (o.path ∙ sym a.path) ∙ sym (top_on acts begun (action_of b) there (v.top b a.found) a.unserial (action_of b)
                there (on_own b.path)) ∙ ap top_of (a.path ∙ sym o.path)

        settles : (T : Tests) → AreFitting T (post ∷ sent) → ConfirmsSettle T (post ∷ sent)
        settles T fit top grants ex inc x b g conf rec marked = ⊎_elim
            (λ new. ⊎_elim (λ also. absurd (not_two conf.head rec.head (ap (λ (z : Post). asks z.message) new ∙ conf.asking)
            (ap (λ (z : Post). asks z.message) also ∙ rec.asking))) (λ old. confirmed new old) rec.posted)
            (λ was. ⊎_elim (λ new. absurd (recorded was new)) (λ old. (all.claims T (less T fit)).1 top grants ex inc x b g (record {
              post = conf.post;
              head = conf.head;
              posted = was;
              asking = conf.asking;
              top_is = conf.top_is;
              actor_is = conf.actor_is;
            }) (record { post = rec.post; head = rec.head; inc = rec.inc; posted = old; asking = rec.asking; top_is = rec.top_is }) marked)
            rec.posted) conf.posted
          where
            not_two : (h j : Head) → asks m ≡ Some (h, ask.Confirm grants ex inc) → asks m ≡ Some (j, ask.Record x b rec.inc g) → ⊥
            not_two h j a o = let both : ◌≡◌ {A = Option (Head × Ask)} (Some (h, ask.Confirm grants ex inc))
                (Some (j, ask.Record x b rec.inc g)) = sym a ∙ o in
                let asked : ask.Confirm grants ex inc ≡ ask.Record x b rec.inc g = ap (λ (z : Head × Ask). z.1) (some_is both) in cc asked

            recorded : In conf.post sent → post ≡ rec.post → ⊥
            recorded was new = no_confirm all.senders to rec.head x b rec.inc g (as_sent rec.post rec.head (ask.Record x b rec.inc g) new
                rec.asking) grants ex inc (subst (λ u. IsConfirm sent u grants ex inc) (sym rec.top_is) (record {
                  post = conf.post;
                  head = conf.head;
                  posted = was;
                  asking = conf.asking;
                  top_is = conf.top_is;
                  actor_is = conf.actor_is;
                }))

            confirmed : post ≡ conf.post → In rec.post sent → (T.past x (binding_number b) ≡ true) ⊎ HasIncluded T x top grants
            confirmed new old = by s s.doing.now refl
              where
                s : IsSentBy c to conf.head (ask.Confirm grants ex inc)
                s = as_sent conf.post conf.head (ask.Confirm grants ex inc) new conf.asking

                from : rec.post.from ≡ k
                from = sym (all.senders rec.post rec.head (ask.Record x b rec.inc g) old rec.asking)
                    ∙ ap (λ (u : Uid). u.node) (rec.top_is ∙ sym conf.top_is) ∙ node_of conf.head (ask.Confirm grants ex inc) s

                by : (s : IsSentBy c to conf.head (ask.Confirm grants ex inc)) (n : Now) → (let d = s.doing in d.now) ≡ n →
                    (T.past x (binding_number b) ≡ true) ⊎ HasIncluded T x top grants
                by s Idle at = absurd (s.busy at)
                by s (Calling z) at = absurd (no_confirm_at z.x z.goal z.at grants ex inc (let o = s.step z at in o.same))
                by s (Committing q) at =
                    let o = s.commit q at in
                    let f = confirm_of q to grants ex inc o.same in
                    ⊎_elim
                    (λ are. inl (are rec.post rec.head b rec.inc g old from rec.asking (rec.top_is ∙ sym conf.actor_is)))
                    (λ has_it. inr (subst (λ u. HasIncluded T x u grants) conf.actor_is
                    (subst (HasIncluded T x (actor conf.head.path)) (sym f.0) has_it)))
                    (marked_so T (each T (less T fit)) (actor conf.head.path) (plan_of q) x
                    ((each T (less T fit)).plans (actor conf.head.path) s.doing q s.found at)
                    (subst (λ es. IsMarked x es (included_of (plan_of q))) f.1 (subst (IsMarked x ex) f.2 marked)))
