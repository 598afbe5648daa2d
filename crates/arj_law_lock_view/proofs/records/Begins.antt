-- What a coordinator's roots keep stays in order where a call or an include begins, and an action; and so it is of the coordinator that is
-- left.
use Rattle.arj_law_parts.proofs.Words
use Words.{◌≡◌, ◌⊎◌, ◌∙◌, ◌≤◌, ◌&&◌, ◌||◌, ◌++◌, ℕ, zero, suc, Bool, true, false, cond, List, [], ◌∷◌, Option, Some, None, refl, sym, ap}
use Words.{subst, inl, inr, ⊎_elim, arith, and_parts, or_parts, uid_cases, End, Header, Kind, Label, Op, Uid, last_uid, uids_of, actor}
use Words.{top_of, begin_action, call, call_steps, given_away, include, known_at_start, next_req, renewed, was_named, At, AtBind, AtInvoke}
use Words.{Goal, Include, Known, Run, Steps, start_at, Calling, Coord, Doing, Idle, Keeping, Root, Said, doing_of, is_call, is_free}
use Words.{keeping_of, kept_of, on_root, retains, root_at, with_keeping, binding_number, unbound, call_reasons, parent_of, refused_by}
use Words.{waits_above, waits_below, Branch, at_place, branch_of, is_own, next_uid, path_below, root_of, uses_object, one_or_two, Post}
use Words.list
use Words.ending
use Words.calls
use Rattle.arj_law_lock_view.proofs.Terms
use Terms.{paths_of, begun_tree, behind, off, stand_begins, get_more, grown_still, IsSpent, not_idle, loose_of, CallStands, IsIncluded}
use Terms.{IsOrdered, IsRecorded, KnowsKept, StepStands, height, top_number, Tests}
use Rattle.arj_law_lock_view.proofs.{facts.Kept.Place, records.Moves.StaysKept, records.Moves.keeps_all, records.Namings.none_not}
use Rattle.arj_law_lock_view.proofs.records.Kept.{Goes, GrantsStay, RootGoes, join_on, root_goes, step_on, uses_goes}
use Rattle.arj_law_lock_view.proofs.records.Steps.{at_root, put_apart, put_here, start, steps_on}
use Rattle.arj_law_parts.specs.parts.Messages.{IsDecided}
use Rattle.arj_law_runs.proofs.addresses.BindSteps.{at_rest}

module _ (T : Tests) (zero_made : T.made 0 ≡ true) (sent : List Post) (k : ℕ) (c : Coord) (place : Place sent k c)
    (knows : KnowsKept c T sent c) where
  abbrev Good : Coord → Type 0
  Good e = Goes c T sent e

  -- ---- a call begins

  module _ (hd : Header) (b : Branch) (x : ℕ) (o : Op) (found : branch_of (actor b.path) c.tree ≡ Some b)
      (none : refused_by (call_reasons hd x o) c (Some b) ≡ None) where
    abbrev R : Root
    R = root_at (root_of b.path) c

    abbrev K : Keeping
    K = keeping_of x R

    abbrev free : Bool
    free = is_free (root_of b.path) (actor b.path) x c

    abbrev q : Keeping
    q = renewed free K K.kept

    -- it is kept as it was, or given up where the root is free of it
    was : (p : Option Known) → K.kept ≡ p →
        (renewed free K p ≡ K) ⊎ ((old : Known) × (K.kept ≡ Some old) × (free ≡ true) × (renewed free K p ≡ given_away K old))
    was None is = inl refl
    was (Some old) is = by (free && K.spoiled) refl
      where
        by : (w : Bool) → (free && K.spoiled) ≡ w → (cond w (given_away K old) K ≡ K)
            ⊎ ((z : Known) × (K.kept ≡ Some z) × (free ≡ true) × (cond w (given_away K old) K ≡ given_away K z))
        by true on = inr (old, is, (and_parts free K.spoiled on).0, refl)
        by false isnt = inl refl

    quiet : (d : Doing) (s : Steps) → doing_of (actor b.path) c ≡ Some d → d.now ≡ Calling s → ⊥
    quiet d s at now =
        let first = off (call_reasons hd x o b c) none in
        at_rest b c d (or_parts (waits_above b c) (waits_below b c) (off (behind (call_reasons hd x o b c)) first.1).0).0 at s now

    spent : free ≡ true → (z : Said) → list.In z R.said → z.x ≡ x → IsSpent c.tree z.path
    spent on z i same = let l = loose_of place.actions (paths_of place.actions) (begun_tree place.actions place.begun) c place.good c.tree
        (λ w e. e) (actor b.path) b found x on in l.spent z i same

    alone : free ≡ true → (u : Uid) (d : Doing) (s : Steps) → doing_of u c ≡ Some d → d.now ≡ Calling s → s.x ≡ x → is_call s.goal ≡ true →
        (root_of b.path).num ≡ (root_of s.path).num → ⊥
    alone on u d s at now same call num = ⊎_elim
        (λ own. quiet d s (ap (λ v. doing_of v c) (sym own) ∙ at) now)
        (λ other. let l = loose_of place.actions (paths_of place.actions) (begun_tree place.actions place.begun) c place.good c.tree
        (λ w e. e) (actor b.path) b found x on in l.alone u d s other at now same call (sym num)) (uid_cases u (actor b.path))

    at_most : (a i : ℕ) → a ≡ i → a ≤ i
    at_most a i is = omega (arith, is)

    stay : (n : Keeping) → GrantsStay R (with_keeping x n R)
    stay n h i = (h, i, refl, refl, omega arith)

    here : (n : Keeping) (y : ℕ) → (x ≡ y) ⊎ (keeping_of y (with_keeping x n R) ≡ keeping_of y R)
    here n y = ⊎_elim (λ same. inl same) (λ apart. inr (put_apart x y n R apart.0)) (one_or_two x y)

    abbrev e : Coord
    e = record c { tree = uses_object b.path x c.tree }

    -- the keeping goes on, or nothing stands on it
    module _ (n : Keeping) (ordered : IsOrdered T x n) (up : height K ≤ height n)
        (goes : ((StaysKept K.kept n.kept) × (binding_number n.avoid ≡ binding_number K.avoid)) ⊎ (free ≡ true)) where
      steps : (u : Uid) (d : Doing) (s : Steps) → doing_of u c ≡ Some d → d.now ≡ Calling s → (root_of b.path).num ≡ (root_of s.path).num →
          StepStands T s.goal s.x (top_of s.path) R s.at → StepStands T s.goal s.x (top_of s.path) (with_keeping x n R) s.at
      steps u d s at now num old = ⊎_elim (λ same. on_it same goes) (λ apart. step_on T R (with_keeping x n R) (stay n) s.goal s.x
          (top_of s.path) s.at (subst (λ (l : Keeping). (let z = keeping_of s.x R in StaysKept z.kept l.kept
          × (binding_number l.avoid ≡ binding_number z.avoid))) (sym apart) (keeps_all (keeping_of s.x R).kept, refl)) old) (here n s.x)
        where
          only_include : x ≡ s.x → free ≡ true → (g : Goal) → s.goal ≡ g → StepStands T g s.x (top_of s.path) R s.at →
              StepStands T g s.x (top_of s.path) (with_keeping x n R) s.at
          only_include same on (Run p) goal w = absurd (alone on u d s at now (sym same) (ap is_call goal) num)
          only_include same on (Include m) goal w = include_same s.at w
            where
              include_same : (z : At) → StepStands T (Include m) s.x (top_of s.path) R z →
                  StepStands T (Include m) s.x (top_of s.path) (with_keeping x n R) z
              include_same (AtBind i) v = v
              include_same (calls.AtLoad i j rest) v =
                  record { asked = v.asked; grant = v.grant; there = v.there; object = v.object; of = v.of; low = v.low }
              include_same (calls.AtActivate i st) v = v
              include_same (calls.AtNote i j) v = v
              include_same (AtInvoke i j) v = v

          on_it : x ≡ s.x → ((StaysKept K.kept n.kept) × (binding_number n.avoid ≡ binding_number K.avoid)) ⊎ (free ≡ true) →
              StepStands T s.goal s.x (top_of s.path) (with_keeping x n R) s.at
          on_it same (inl w) = step_on T R (with_keeping x n R) (stay n) s.goal s.x (top_of s.path) s.at
              (subst (λ y. (let z = keeping_of y R in let l = keeping_of y (with_keeping x n R) in
              StaysKept z.kept l.kept × (binding_number l.avoid ≡ binding_number z.avoid))) same (subst
              (λ (l : Keeping). StaysKept K.kept l.kept × (binding_number l.avoid ≡ binding_number K.avoid)) (sym (put_here x n R)) w)) old
          on_it same (inr on) = only_include same on s.goal refl old

      recorded_on : x ≡ x → ((StaysKept K.kept n.kept) × (binding_number n.avoid ≡ binding_number K.avoid)) ⊎ (free ≡ true) → (z : Said) →
          list.In z R.said → z.x ≡ x → IsRecorded K.kept → IsSpent c.tree z.path ⊎ IsRecorded n.kept
      recorded_on r (inl w) z i same rec = inr (kept_on K.kept n.kept w.0 rec)
        where
          kept_on : (a i : Option Known) → StaysKept a i → IsRecorded a → IsRecorded i
          kept_on None i w rec = absurd rec
          kept_on (Some y) i w rec = let f = w y refl in subst IsRecorded (sym f.1) (f.3 rec)
      recorded_on r (inr on) z i same rec = inl (spent on z i same)

      root_so : RootGoes c T sent e (root_of b.path) (with_keeping x n R)
      root_so = record {
        keeps = λ y. ⊎_elim (λ same. subst (λ m. IsOrdered T m (keeping_of m (with_keeping x n R))) same (subst (IsOrdered T x)
            (sym (put_here x n R)) ordered)) (λ apart. subst (IsOrdered T y) (sym apart) (knows.keeps (root_of b.path) y)) (here n y);
        heights = λ y. ⊎_elim (λ same. subst (λ m. height (keeping_of m R) ≤ height (keeping_of m (with_keeping x n R))) same (subst
            (λ (l : Keeping). height K ≤ height l) (sym (put_here x n R)) up)) (λ apart. at_most _ _ (ap height (sym apart))) (here n y);
        said = λ z i. inl (
          i,
          λ rec. ⊎_elim
              (λ same. ⊎_elim (λ w. inl w) (λ w. inr (subst (λ m. IsRecorded (kept_of m (with_keeping x n R))) same
              (subst (λ (l : Keeping). IsRecorded l.kept) (sym (put_here x n R)) w)))
              (recorded_on refl goes z i (sym same) (subst (λ m. IsRecorded (kept_of m R)) (sym same) rec)))
              (λ apart. inr (subst (λ (l : Keeping). IsRecorded l.kept) (sym apart) rec)) (here n z.x),
        );
        joined = λ j i. join_on c T sent R (with_keeping x n R) (stay n) j (knows.joined (root_of b.path) j i);
        states = λ y z is. knows.states (root_of b.path) y z is;
        steps = steps;
      }

    renewed_so : RootGoes c T sent e (root_of b.path) (with_keeping x q R)
    renewed_so = ⊎_elim
        (λ same. subst (λ n. RootGoes c T sent e (root_of b.path) (with_keeping x n R)) (sym same)
        (root_so K (knows.keeps (root_of b.path) x) (omega arith) (inl (keeps_all K.kept, refl))))
        (λ gone. subst (λ n. RootGoes c T sent e (root_of b.path) (with_keeping x n R)) (sym gone.3)
        (root_so (given_away K gone.0) (away gone.0 gone.1) (level gone.0 gone.1) (inr gone.2))) (was K.kept refl)
      where
        away : (old : Known) → K.kept ≡ Some old → IsOrdered T x (given_away K old)
        away old is = record { avoid = (let w = (knows.keeps (root_of b.path) x).kept old is in w.made); kept = λ z e. none_not e }

        level : (old : Known) → K.kept ≡ Some old → height K ≤ height (given_away K old)
        level old is = at_most _ _ (ap (λ p. top_number p K.avoid) is)

    pub call_goes : Good (call b.path x o c).part
    call_goes = steps_on T zero_made sent k c place knows (call_steps b.path x o (next_req (actor b.path) c) R c q)
        (on_root (root_of b.path) (with_keeping x q) e)
        (subst (λ (l : Keeping). CallStands T x l.kept l.avoid (start_at (known_at_start (top_of b.path) x R c q.kept) q.avoid))
        (sym (ap (keeping_of x) (at_root (root_of b.path) (with_keeping x q R) e) ∙ put_here x q R)) (stands q.kept refl))
        (root_goes c T sent (root_of b.path) (with_keeping x q) e renewed_so
        (uses_goes c T sent b.path x c (start T zero_made sent k c place knows)))
      where
        stands : (p : Option Known) → q.kept ≡ p → CallStands T x q.kept q.avoid (start_at (known_at_start (top_of b.path) x R c p) q.avoid)
        stands None is = refl
        stands (Some z) is = by (z.recorded && (was_named (top_of b.path) x z.binding R || retains x R c)) refl
          where
            by : (w : Bool) → (z.recorded && (was_named (top_of b.path) x z.binding R || retains x R c)) ≡ w →
                CallStands T x q.kept q.avoid (start_at (cond w (Some z) None) q.avoid)
            by true on = subst IsRecorded (sym is) (and_parts z.recorded (was_named (top_of b.path) x z.binding R || retains x R c) on).0
            by false isnt = refl

  pub include_goes : (b : Branch) (x n : ℕ) → Good (include b.path x n c).part
  include_goes b x n = steps_on T zero_made sent k c place knows (calls.start b.path x (Include n) None unbound (next_req (actor b.path) c))
      (record c { tree = uses_object b.path x c.tree }) zero_made (uses_goes c T sent b.path x c (start T zero_made sent k c place knows))

-- ---- with the tree that is left

-- ends stay, and branches with their paths
pub over_kept : (c e : Coord) (T : Tests) (sent : List Post) → ((u : Uid) (how : End) → IsDecided u how c.tree → IsDecided u how e.tree) →
    (let t = e.tree in let z = c.tree in t.node ≡ z.node) → ((w : Uid) (b : Branch) → branch_of w c.tree ≡ Some b →
    (q : Branch) × (branch_of w e.tree ≡ Some q) × (q.path ≡ b.path)) → KnowsKept c T sent e → KnowsKept e T sent e
over_kept c e T sent ends node stays knows = record {
  keeps = knows.keeps;
  said = λ r s i. ⊎_elim (λ (w : IsSpent c.tree s.path). inl (w.0, w.1, ends w.0 ending.Abort w.2)) (λ rec. inr rec) (knows.said r s i);
  joined = λ r j i. let n = knows.joined r j i in let f = stays (last_uid j.path) n.branch n.found in record {
    branch = f.0;
    found = f.1;
    path = ap uids_of f.2 ∙ n.path;
    grant = n.grant;
    included = subst (λ p. IsIncluded T j.x (top_of p) n.grant (root_at r e)) (sym f.2) n.included;
    loaded = n.loaded;
  };
  states = knows.states;
  steps = knows.steps;
  records = λ p h x b i g there from is own. knows.records p h x b i g there (from ∙ node) is own;
}

-- an action begins
pub begin_kept : (T : Tests) (sent : List Post) (l : Label) (how : Kind) (parent : Option Label) (c : Coord) → KnowsKept c T sent c →
    KnowsKept (begin_action l how parent (parent_of parent c) c).part T sent (begin_action l how parent (parent_of parent c) c).part
begin_kept T sent l how parent c knows =
    over_kept c v T sent (λ u h d. (stand_begins how (path_below how (parent_of parent c) (next_uid c.tree)) c.tree).ends u h d) refl
    (λ w b is. (b, grown_still how (path_below how (parent_of parent c) (next_uid c.tree)) c.tree w b is, refl)) grown
  where
    v : Coord
    v = (begin_action l how parent (parent_of parent c) c).part

    fresh : Doing
    fresh = record { label = l; req = 0; now = Idle; took = [] }

    was : (b : Bool) (j : ℕ) (d : Doing) → cond b (at_place j (c.doings ++ fresh ∷ [])) None ≡ Some d →
        (cond b (at_place j c.doings) None ≡ Some d) ⊎ (d.now ≡ Idle)
    was true zero d at = absurd (cc at)
    was true (suc j) d at = ⊎_elim (λ old. inl old) (λ its. inr (ap (λ (z : Doing). z.now) (sym its.1))) (get_more j fresh d c.doings at)
    was false j d at = absurd (cc at)

    grown : KnowsKept c T sent (begin_action l how parent (parent_of parent c) c).part
    grown = record {
      keeps = knows.keeps;
      said = knows.said;
      joined = knows.joined;
      states = knows.states;
      steps = λ u d s at now.
          ⊎_elim (λ old. knows.steps u d s old now) (λ idle. absurd (not_idle (sym idle ∙ now))) (was (is_own u c.tree) u.num d at);
      records = knows.records;
    }
