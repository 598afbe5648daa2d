-- A world goes on by steps of nodes, whatever stops are still to fall.
use Rattle.std.proofs.Common.{◌≡◌, ℕ, zero, suc, ◌+◌, ◌-◌, ◌≤◌, ◌<◌, ◌==◌, Bool, true, false, List, [], ◌∷◌, ◌≢◌, refl, ap, sym, ◌∙◌, subst}
use Rattle.std.proofs.Common.{Option, Some, None, arith, nat_lt}
use Rattle.std.specs.Prelude.{unwrap_or, option_map, IsSomeAnd, slice_get, slice_set}
use Rattle.arj_protocol.specs.Effect.{Stop}
use Rattle.arj_protocol.specs.Step.{Node, Input, Step, step}
use Rattle.arj_protocol.specs.Tree.{at_place, set_place}
use Rattle.arj_protocol.specs.World.{World, Arm, cut, count_works, done_step, halted_at, steps, step_node, step_with, step_armed, disarmed}
use Rattle.arj_world.specs.Goes.{Pick, Works, Admits, Reaches, arms_of, left_of, but_at}
use Rattle.arj_world.specs.Turns.{with_arms}
use Rattle.arj_protocol.proofs.Maps.{place_other}
use Rattle.arj_world.proofs.Arms.{found, alike, put, without}

-- ---- values at one key changed

pub at_key : {A : Type 0} (k : ℕ) (a : A) (f : ℕ → A) → but_at k a f k ≡ a
at_key k a f = let same : (k == k) ≡ true = grind arith in rw same refl

pub at_other : {A : Type 0} (k m : ℕ) (a : A) (f : ℕ → A) → (m == k) ≡ false → but_at k a f m ≡ f m
at_other k m a f h = rw h refl

one : (k m : ℕ) → (m == k) ≡ true → m ≡ k
one k m h = grind (arith, h)

-- two functions are the same where they are at one key and at all others
pub by_key : {A : Type 0} (k : ℕ) (f g : ℕ → A) → f k ≡ g k → ((m : ℕ) → (m == k) ≡ false → f m ≡ g m) → (m : ℕ) → f m ≡ g m
by_key k f g here others m = by (m == k) refl
  where
    by : (b : Bool) → (m == k) ≡ b → f m ≡ g m
    by true h = subst (λ n. f n ≡ g n) (sym (one k m h)) here
    by false h = others m h

-- a place that is there has what is put there
pub place_same : {A : Type 0} (k : ℕ) (a : A) (items : List A) (b : A) → at_place k items ≡ Some b →
    at_place k (set_place k a items) ≡ Some a
place_same zero a items b at = absurd (cc at)
place_same (suc k) a items b at = set_here k a items b at
  where
    set_here : {A : Type 0} (i : ℕ) (a : A) (items : List A) (b : A) → slice_get items i ≡ Some b →
        slice_get (slice_set items i a) i ≡ Some a
    set_here i a [] b at = absurd (cc at)
    set_here zero a (x ∷ xs) b at = refl
    set_here (suc i) a (x ∷ xs) b at = set_here i a xs b at

-- the works that a node has done, with some more
abbrev more : ℕ → Option ℕ → Option ℕ
more c d = option_map (λ n. n + c) d

module _ (most k : ℕ) (low : 1 ≤ k) (high : k ≤ most) (i : Input) (n : Node) (now : World) (here : at_place k now.nodes ≡ Some n) where
  abbrev s : Step
  s = step now.header n i

  abbrev c : ℕ
  c = count_works s.halting

  abbrev sub : Option ℕ → Arm → Arm
  sub d a = record a { works = a.works - unwrap_or d 0 }

  -- the step of the node, with its arm
  stepped : (g : Pick) → steps k i (with_arms (arms_of most g) now) ≡ step_with k n s (with_arms (arms_of most g) now) (g k)
  stepped g = let v =
      with_arms (arms_of most g) now in ap (step_node k i v) here ∙ ap (step_with k n s v) (found most 1 k g low (omega (arith, high)))

  -- the step is done, and counts against what is still to fall
  counted : (done : Works) (f : Pick) → Admits (but_at k (more c (done k)) done) f →
      steps k i (with_arms (arms_of most (left_of done f)) now) ≡ with_arms (arms_of most (left_of (but_at k (more c (done k)) done) f)) (done_step k s now)
  counted done f admits = stepped (left_of done f) ∙ by (f k) refl
    where
      v : World
      v = with_arms (arms_of most (left_of done f)) now

      after : Works
      after = but_at k (more c (done k)) done

      others : (m : ℕ) → (m == k) ≡ false → left_of done f m ≡ left_of after f m
      others m h = ap (λ d. option_map (sub d) (f m)) (sym (at_other k m (more c (done k)) done h))

      fewer : (d : ℕ) (a : Arm) → record a { works = a.works - d - c } ≡ record a { works = a.works - (d + c) }
      fewer d a = ap (λ (x : ℕ). record a { works = x }) (omega arith)

      armed_on : (d : ℕ) (a : Arm) → done k ≡ Some d → f k ≡ Some a → d + c < a.works
          → step_armed k n s v (record a { works = a.works - d }) ≡ with_arms (arms_of most (left_of after f)) (done_step k s now)
      armed_on d a had is room =
          let still : nat_lt c (a.works - d) ≡ true = grind (arith, room) in
          let left : left_of done f k ≡ Some (record a { works = a.works - d }) = (λ j. option_map (sub (had j)) (is j)) in
          let here' : but_at k (Some (record a { works = a.works - d - c })) (left_of done f) k ≡ left_of after f k =
          at_key k (Some (record a {
            works =
                a.works - d - c;
          })) (left_of done f) ∙ ap Some (fewer d a) ∙ (λ j. option_map (sub (sym (at_key k (more c (done k)) done ∙ ap (more c) had) j)) (sym is j)) in
          rw still (ap (λ arms. with_arms arms (done_step k s now))
          (put most 1 k (record a { works = a.works - d - c }) (record a {
            works =
                a.works - d;
          }) (left_of done f) low (omega (arith, high)) left
          ∙ alike most 1 (but_at k (Some (record a { works = a.works - d - c })) (left_of done f)) (left_of after f)
          (by_key k (but_at k (Some (record a { works = a.works - d - c })) (left_of done f)) (left_of after f) here'
          (λ m h. at_other k m (Some (record a { works = a.works - d - c })) (left_of done f) h ∙ others m h))))

      with_done : (o : Option ℕ) (a : Arm) → done k ≡ o → f k ≡ Some a → IsSomeAnd (more c o) (λ d. d < a.works)
          → step_with k n s v (Some (sub o a)) ≡ with_arms (arms_of most (left_of after f)) (done_step k s now)
      with_done None a had is room = absurd room
      with_done (Some d) a had is room = armed_on d a had is room

      by : (o : Option Arm) → f k ≡ o →
          step_with k n s v (option_map (sub (done k)) o) ≡ with_arms (arms_of most (left_of after f)) (done_step k s now)
      by None is = ap (λ arms. with_arms arms (done_step k s now))
          (alike most 1 (left_of done f) (left_of after f) (by_key k (left_of done f) (left_of after f) (ap (option_map (sub (done k))) is ∙ sym (ap (option_map (sub (after k))) is)) others))
      by (Some a) is =
          with_done (done k) a refl is (subst (λ o. IsSomeAnd o (λ d. d < a.works)) (at_key k (more c (done k)) done) (admits k a is))

  -- a stop falls
  fell : (done : Works) (f : Pick) (d work : ℕ) (how : Stop) → done k ≡ Some d → work < c → f k ≡ None
      → steps k i (with_arms (arms_of most (left_of done (but_at k (Some (record { works = d + work + 1; how = how })) f))) now)
      ≡ with_arms (arms_of most (left_of (but_at k None done) f)) (halted_at k n (cut work how s.halting n.disk) now)
  fell done f d work how had within none =
      stepped (left_of done g) ∙ ap (step_with k n s v) left ∙ rw falls (ap (λ (x : ℕ). halted_at k n (cut x how s.halting n.disk) (disarmed k v)) minus ∙ ap (λ arms. with_arms arms (halted_at k n (cut work how s.halting n.disk) now)) (without most 1 k (left_of done g) ∙ alike most 1 (but_at k None (left_of done g)) (left_of (but_at k None done) f) (by_key k (but_at k None (left_of done g)) (left_of (but_at k None done) f) gone others)))
    where
      a : Arm
      a = record { works = d + work + 1; how = how }

      g : Pick
      g = but_at k (Some a) f

      v : World
      v = with_arms (arms_of most (left_of done g)) now

      due : Arm
      due = record { works = work + 1; how = how }

      left : left_of done g k ≡ Some due
      left = (λ j. option_map (sub (had j)) (at_key k (Some a) f j)) ∙ ap (λ (x : ℕ). Some (record a { works = x })) (omega arith)

      minus : work + 1 - 1 ≡ work
      minus = omega arith

      falls : nat_lt c (work + 1) ≡ false
      falls = grind (arith, within)

      gone : but_at k None (left_of done g) k ≡ left_of (but_at k None done) f k
      gone = at_key k None (left_of done g) ∙ sym (ap (option_map (sub (but_at k None done k))) none)

      others : (m : ℕ) → (m == k) ≡ false → but_at k None (left_of done g) m ≡ left_of (but_at k None done) f m
      others m h = at_other k m None (left_of done g) h ∙ (λ j. option_map (sub (sym (at_other k m None done h) j)) (at_other k m (Some a) f h j))

  -- the node's step is done or cut: the run goes on from the world that it leaves
  pub goes_on : (run rest : World → World) (first : World) (r : Reaches most run first (λ w. rest (steps k i w)) now)
      → (r.done k ≡ None → (s.after.live ≡ None) × (c ≡ 0)) → Reaches most run first rest (done_step k s now)
  goes_on run rest first r stays = record {
    done = but_at k (more c (r.done k)) r.done;
    pick = r.pick;
    works = λ f admits. r.works f (fewer f admits);
    down = down;
    same = λ f admits. r.same f (fewer f admits) ∙ ap rest (counted r.done f admits);
  }
    where
      fewer : (f : Pick) → Admits (but_at k (more c (r.done k)) r.done) f → Admits r.done f
      fewer f admits m a is = by (m == k) refl
        where
          less : (o : Option ℕ) → IsSomeAnd (more c o) (λ d. d < a.works) → IsSomeAnd o (λ d. d < a.works)
          less None h = h
          less (Some d) h = omega (arith, h)

          by : (b : Bool) → (m == k) ≡ b → IsSomeAnd (r.done m) (λ d. d < a.works)
          by true h =
              let same : m ≡ k = one k m h in
              subst (λ j. IsSomeAnd (r.done j) (λ d. d < a.works)) (sym same) (less (r.done k) (subst (λ o. IsSomeAnd o (λ d. d < a.works)) (ap (but_at k (more c (r.done k)) r.done) same ∙ at_key k (more c (r.done k)) r.done) (admits m a is)))
          by false h = subst (λ o. IsSomeAnd o (λ d. d < a.works)) (at_other k m (more c (r.done k)) r.done h) (admits m a is)

      none_had : (o : Option ℕ) → more c o ≡ None → o ≡ None
      none_had None h = refl
      none_had (Some d) h = absurd (cc h)

      down : (j : ℕ) (m : Node) → but_at k (more c (r.done k)) r.done j ≡ None → at_place j (done_step k s now).nodes ≡ Some m →
          m.live ≡ None
      down j m none at = by (j == k) refl
        where
          by : (b : Bool) → (j == k) ≡ b → m.live ≡ None
          by true h =
              let same : j ≡ k = one k j h in
              let had : r.done k ≡ None =
              none_had (r.done k) (sym (at_key k (more c (r.done k)) r.done) ∙ ap (but_at k (more c (r.done k)) r.done) (sym same) ∙ none) in
              let is : s.after ≡ m =
              cc (sym (place_same k s.after now.nodes n here) ∙ ap (λ x. at_place x (done_step k s now).nodes) (sym same) ∙ at) in
              ap (λ (x : Node). x.live) (sym is) ∙ (stays had).0
          by false h = r.down j m (sym (at_other k j (more c (r.done k)) r.done h) ∙ none) (sym (place_other k j s.after now.nodes (apart h)) ∙ at)
            where
              apart : (j == k) ≡ false → j ≢ k
              apart h = grind (arith, h)

  -- a stop of the node's disk falls into the step: the node is down
  pub goes_down : (run rest : World →
      World) (first : World) (r : Reaches most run first (λ w. rest (steps k i w)) now) (work : ℕ) (how : Stop)
      → work < c → (r.done k ≡ None → c ≡ 0) → Reaches most run first rest (halted_at k n (cut work how s.halting n.disk) now)
  goes_down run rest first r work how within idle = by (r.done k) refl
    where
      by : (o : Option ℕ) → r.done k ≡ o → Reaches most run first rest (halted_at k n (cut work how s.halting n.disk) now)
      by None had = absurd (omega (arith, within, idle had))
      by (Some d) had = record {
        done = but_at k None r.done;
        pick = λ f. r.pick (but_at k (Some (record { works = d + work + 1; how = how })) f);
        works = λ f admits. r.works (but_at k (Some (record { works = d + work + 1; how = how })) f) (wider f admits);
        down = down;
        same = λ f admits. r.same (but_at k (Some (record {
          works = d + work + 1;
          how =
              how;
        })) f) (wider f admits) ∙ ap rest (fell r.done f d work how had within (none_at f admits (f k) refl));
      }
        where
          none_at : (f : Pick) → Admits (but_at k None r.done) f → (o : Option Arm) → f k ≡ o → o ≡ None
          none_at f admits None is = refl
          none_at f admits (Some a) is = absurd (subst (λ o. IsSomeAnd o (λ d. d < a.works)) (at_key k None r.done) (admits k a is))

          wider : (f : Pick) → Admits (but_at k None r.done) f →
              Admits r.done (but_at k (Some (record { works = d + work + 1; how = how })) f)
          wider f admits m a is = twice (m == k) refl
            where
              twice : (b : Bool) → (m == k) ≡ b → IsSomeAnd (r.done m) (λ d. d < a.works)
              twice true h =
                  let same : m ≡ k = one k m h in
                  let arm : record { works = d + work + 1; how = how } ≡ a =
                  cc (sym (at_key k (Some (record { works = d + work + 1; how = how })) f) ∙ ap (but_at k (Some (record {
                    works =
                        d + work + 1;
                    how = how;
                  })) f) (sym same) ∙ is) in
                  let room : d < a.works = subst (λ (x : Arm). d < x.works) arm (omega arith) in
                  subst (λ o. IsSomeAnd o (λ e. e < a.works)) (sym (ap r.done same ∙ had)) room
              twice false h =
                  subst (λ o. IsSomeAnd o (λ d. d < a.works)) (at_other k m None r.done h) (admits m a (sym (at_other k m (Some (record { works = d + work + 1; how = how })) f h) ∙ is))

          down : (j : ℕ) (m : Node) → but_at k None r.done j ≡ None →
              at_place j (halted_at k n (cut work how s.halting n.disk) now).nodes ≡ Some m → m.live ≡ None
          down j m none at = twice (j == k) refl
            where
              apart : (j == k) ≡ false → j ≢ k
              apart h = grind (arith, h)

              after : Node
              after = let t = cut work how s.halting n.disk in record n { disk = t.disk; live = None }

              twice : (b : Bool) → (j == k) ≡ b → m.live ≡ None
              twice true h =
                  let same : j ≡ k = one k j h in
                  let is : after ≡ m =
                  cc (sym (place_same k after now.nodes n here) ∙ ap (λ x. at_place x (halted_at k n (cut work how s.halting n.disk) now).nodes) (sym same) ∙ at) in
                  ap (λ (x : Node). x.live) (sym is)
              twice false h = r.down j m (sym (at_other k j None r.done h) ∙ none) (sym (place_other k j after now.nodes (apart h)) ∙ at)
