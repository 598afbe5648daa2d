-- What lines tell of frames and of which nodes are up, against frames and nodes, a line more at a time.
use Rattle.arj_law_parts.proofs.Words
use Words.{◌≡◌, ◌≢◌, ◌∙◌, ◌+◌, ◌<◌, ◌==◌, ◌&&◌, ◌||◌, not, ℕ, zero, suc, Bool, true, false, cond, List, [], ◌∷◌, ◌++◌, length, refl, sym}
use Words.{ap, arith, Option, Some, None, is_some, slice_get, slice_set, length-append, nat_tests, at_place, set_place, Node}
use Words.{Body, Line, Message, Frame, as_delivered, as_lost, is_open_frame, new_frame, frame_kind, place_other, eqb-true, filter}
use Words.{Start}
use Words.body
use Rattle.arj_law_parts.proofs.moves.Happens.{place_same}
use Rattle.arj_model.specs.CausePends.{frame_is, sends}
use Rattle.arj_model.specs.Refusals.{down_from, down_step, frame_from, frame_step, has_frame, is_down, is_sent, last_frame, open_frames}
use Rattle.arj_model.specs.Refusals.{open_from, open_step}
use Rattle.arj_protocol.specs.Words.{FrameKind, frame.Junk}

-- of what a frame carries
abbrev pub carried_by : Option Message → FrameKind
carried_by None = Junk
carried_by (Some m) = frame_kind m

-- of a frame, where there is one, this holds
abbrev pub frame_test : (ℕ → ℕ → FrameKind → Bool) → Option Frame → Bool
frame_test test None = false
frame_test test (Some f) = test f.from f.to (carried_by f.message)

-- the numbers of the open ones of these frames, counted from k
abbrev pub opens : ℕ → List Frame → List ℕ
opens k [] = []
opens k (f ∷ fs) = cond (is_open_frame f) (k ∷ opens (k + 1) fs) (opens (k + 1) fs)

-- These lines tell of these frames, each sent with its number, and which are open; and which of these nodes are up.
pub record Tells (st : Start) (ls : List Line) (fs : List Frame) (ns : List Node) : Type 0 where
  pub last : last_frame ls ≡ length fs
  pub frames : (test : ℕ → ℕ → FrameKind → Bool) (k : ℕ) → frame_is test ls k ≡ frame_test test (at_place k fs)
  pub pending : open_frames ls ≡ opens 1 fs
  pub ups : (n : ℕ) (m : Node) → at_place n ns ≡ Some m → is_down st ls n ≡ not (is_some m.live)

-- ---- a line more

module _ (e : ℕ) (b : Body) where
  abbrev line : Line
  line = record { event = e; body = b }

  last_on : (last : ℕ) (ls : List Line) → frame_from last (ls ++ line ∷ []) ≡ frame_step b (frame_from last ls)
  last_on last [] = refl
  last_on last (l ∷ ls) = last_on (frame_step l.body last) ls

  open_on : (ks : List ℕ) (ls : List Line) → open_from ks (ls ++ line ∷ []) ≡ open_step b (open_from ks ls)
  open_on ks [] = refl
  open_on ks (l ∷ ls) = open_on (open_step l.body ks) ls

  pub down_on : (n : ℕ) (d : Bool) (ls : List Line) → down_from n d (ls ++ line ∷ []) ≡ down_step n b (down_from n d ls)
  down_on n d [] = refl
  down_on n d (l ∷ ls) = down_on n (down_step n l.body d) ls

  is_on : (test : ℕ → ℕ → FrameKind → Bool) (k : ℕ) (ls : List Line) → frame_is test (ls ++ line ∷ []) k ≡ frame_is test ls k || sends test
      k b
  is_on test k [] = by (sends test k b)
    where
      by : (x : Bool) → (x || false) ≡ (false || x)
      by true = refl
      by false = refl
  is_on test k (l ∷ ls) = by (sends test k l.body) (is_on test k ls)
    where
      by : (x : Bool) → frame_is test (ls ++ line ∷ []) k ≡ frame_is test ls k || sends test k b →
          (x || frame_is test (ls ++ line ∷ []) k) ≡ (x || frame_is test ls k) || sends test k b
      by true more = refl
      by false more = more

-- a line that tells of none of these changes nothing
record IsStill (b : Body) : Type 0 where
  pub last : (k : ℕ) → frame_step b k ≡ k
  pub pending : (ks : List ℕ) → open_step b ks ≡ ks
  pub down : (n : ℕ) (d : Bool) → down_step n b d ≡ d
  pub sent : (test : ℕ → ℕ → FrameKind → Bool) (k : ℕ) → sends test k b ≡ false

or_false : (x : Bool) → (x || false) ≡ x
or_false true = refl
or_false false = refl

module _ (st : Start) (e : ℕ) (ls : List Line) (fs : List Frame) (ns : List Node) where
  still_tells : (b : Body) → IsStill b → Tells st ls fs ns → Tells st (ls ++ record { event = e; body = b } ∷ []) fs ns
  still_tells b s t = record {
    last = last_on e b 0 ls ∙ s.last (last_frame ls) ∙ t.last;
    frames = λ test k. is_on e b test k ls ∙ ap (λ x. frame_is test ls k || x) (s.sent test k) ∙ or_false (frame_is test ls k) ∙ t.frames
        test k;
    pending = open_on e b [] ls ∙ s.pending (open_frames ls) ∙ t.pending;
    ups = λ n m at. down_on e b n (not (st.up n)) ls ∙ s.down n (is_down st ls n) ∙ t.ups n m at;
  }

  -- ---- a frame is sent

  opens_on : (k : ℕ) (gs : List Frame) (f : Frame) → is_open_frame f ≡ true → opens k (gs ++ f ∷ []) ≡ opens k gs ++ (k + length gs) ∷ []
  opens_on k [] f is = let same : k ≡ k + 0 = omega arith in (λ i. cond (is i) (k ∷ []) []) ∙ ap (λ j. j ∷ []) same
  opens_on k (g ∷ gs) f is = by (is_open_frame g) (opens_on (k + 1) gs f is ∙ ap (λ j. opens (k + 1) gs ++ j ∷ []) same)
    where
      same : (k + 1) + length gs ≡ k + suc (length gs)
      same = omega arith

      by : (b : Bool) → opens (k + 1) (gs ++ f ∷ []) ≡ opens (k + 1) gs ++ (k + suc (length gs)) ∷ [] →
          cond b (k ∷ opens (k + 1) (gs ++ f ∷ [])) (opens (k + 1) (gs ++ f ∷ []))
          ≡ cond b (k ∷ opens (k + 1) gs) (opens (k + 1) gs) ++ (k + suc (length gs)) ∷ []
      by true rest = ap (λ (js : List ℕ). k ∷ js) rest
      by false rest = rest

  no_zero : (i : ℕ) → (0 == suc i) ≡ false
  no_zero i = grind (arith, nat_tests)

  zero_no : (i : ℕ) → (suc i == 0) ≡ false
  zero_no i = grind (arith, nat_tests)

  same_suc : (a b c : ℕ) → c ≡ suc a → (c == suc b) ≡ (a == b)
  same_suc a b c is = by (a == b) refl
    where
      by : (t : Bool) → (a == b) ≡ t → (c == suc b) ≡ t
      by true e = grind (arith, nat_tests, e, is)
      by false e = grind (arith, nat_tests, e, is)

  -- of a frame behind others
  test_on : (test : ℕ → ℕ → FrameKind → Bool) (gs : List Frame) (f : Frame) (i : ℕ) →
      (frame_test test (slice_get gs i) || ((length gs == i) && test f.from f.to (carried_by f.message))) ≡ frame_test test
      (slice_get (gs ++ f ∷ []) i)
  test_on test [] f zero = refl
  test_on test [] f (suc i) = λ j. (no_zero i j) && test f.from f.to (carried_by f.message)
  test_on test (g ∷ gs) f zero =
      (λ j. test g.from g.to (carried_by g.message) || ((zero_no (length gs) j) && test f.from f.to (carried_by f.message)))
      ∙ or_false (test g.from g.to (carried_by g.message))
  test_on test (g ∷ gs) f (suc i) =
      (λ j. frame_test test (slice_get gs i) || ((same_suc (length gs) i (suc (length gs)) refl j) && test f.from f.to
      (carried_by f.message)))
      ∙ test_on test gs f i

  sent_test : (test : ℕ → ℕ → FrameKind → Bool) (gs : List Frame) (f : Frame) (k : ℕ) →
      (frame_test test (at_place k gs) || ((length gs + 1 == k) && test f.from f.to (carried_by f.message))) ≡ frame_test test
      (at_place k (gs ++ f ∷ []))
  sent_test test gs f zero = λ i. (never (length gs) i) && test f.from f.to (carried_by f.message)
    where
      never : (n : ℕ) → (n + 1 == 0) ≡ false
      never n = grind (arith, nat_tests)
  sent_test test gs f (suc i) =
      (λ j. frame_test test (slice_get gs i) || ((same (length gs) j) && test f.from f.to (carried_by f.message))) ∙ test_on test gs f i
    where
      same : (n : ℕ) → (n + 1 == suc i) ≡ (n == i)
      same n = same_suc n i (n + 1) (one_more n)
        where
          one_more : (n : ℕ) → n + 1 ≡ suc n
          one_more n = omega arith

  sent_tells : (f : Frame) → is_open_frame f ≡ true → Tells st ls fs ns →
      Tells st (ls ++ record { event = e; body = body.Sent (length fs + 1) f.from f.to (carried_by f.message) } ∷ []) (fs ++ f ∷ []) ns
  sent_tells f is t =
      let b : Body = body.Sent (length fs + 1) f.from f.to (carried_by f.message) in
      record {
        last = last_on e b 0 ls ∙ sym (length-append fs (f ∷ []));
        frames = λ test k. is_on e b test k ls
            ∙ ap (λ x. x || ((length fs + 1 == k) && test f.from f.to (carried_by f.message))) (t.frames test k) ∙ sent_test test fs f k;
        pending = open_on e b [] ls ∙ ap (λ (js : List ℕ). js ++ (length fs + 1) ∷ []) t.pending
            ∙ ap (λ j. opens 1 fs ++ j ∷ []) (swap (length fs)) ∙ sym (opens_on 1 fs f is);
        ups = λ n m at. down_on e b n (not (st.up n)) ls ∙ t.ups n m at;
      }
    where
      swap : (n : ℕ) → n + 1 ≡ 1 + n
      swap n = omega arith

  -- ---- a frame is marked

  -- those above are all others
  above : (c b : ℕ) (gs : List Frame) → b < c → filter (λ j. not (j == b)) (opens c gs) ≡ opens c gs
  above c b [] less = refl
  above c b (g ∷ gs) less = by (is_open_frame g) (above (c + 1) b gs (omega (arith, less)))
    where
      apart : (c == b) ≡ false
      apart = grind (arith, nat_tests, less)

      by : (x : Bool) → filter (λ j. not (j == b)) (opens (c + 1) gs) ≡ opens (c + 1) gs →
          filter (λ j. not (j == b)) (cond x (c ∷ opens (c + 1) gs) (opens (c + 1) gs)) ≡ cond x (c ∷ opens (c + 1) gs) (opens (c + 1) gs)
      by true rest = (λ i. cond (not (apart i)) (c ∷ filter (λ j. not (j == b)) (opens (c + 1) gs))
          (filter (λ j. not (j == b)) (opens (c + 1) gs)))
          ∙ ap (λ (js : List ℕ). c ∷ js) rest
      by false rest = rest

  -- one that is closed isn't open
  closed_at : (b : ℕ) (gs : List Frame) (i : ℕ) (g : Frame) → is_open_frame g ≡ false →
      opens b (slice_set gs i g) ≡ filter (λ j. not (j == b + i)) (opens b gs)
  closed_at b [] i g shut = refl
  closed_at b (f ∷ gs) zero g shut =
      (λ i. cond (shut i) (b ∷ opens (b + 1) gs) (opens (b + 1) gs)) ∙ sym (ap (λ c. filter (λ j. not (j == c)) (opens b (f ∷ gs))) none ∙
      by (is_open_frame f))
    where
      none : b + 0 ≡ b
      none = omega arith

      same : (b == b) ≡ true
      same = grind (arith, nat_tests)

      more : filter (λ j. not (j == b)) (opens (b + 1) gs) ≡ opens (b + 1) gs
      more = above (b + 1) b gs (omega arith)

      by : (x : Bool) → filter (λ j. not (j == b)) (cond x (b ∷ opens (b + 1) gs) (opens (b + 1) gs)) ≡ opens (b + 1) gs
      by true = (λ i. cond (not (same i)) (b ∷ filter (λ j. not (j == b)) (opens (b + 1) gs))
          (filter (λ j. not (j == b)) (opens (b + 1) gs))) ∙ more
      by false = more
  closed_at b (f ∷ gs) (suc i) g shut =
      by (is_open_frame f) (closed_at (b + 1) gs i g shut ∙ ap (λ c. filter (λ j. not (j == c)) (opens (b + 1) gs)) same)
    where
      same : (b + 1) + i ≡ b + suc i
      same = omega arith

      apart : (b == b + suc i) ≡ false
      apart = grind (arith, nat_tests)

      by : (x : Bool) → opens (b + 1) (slice_set gs i g) ≡ filter (λ j. not (j == b + suc i)) (opens (b + 1) gs) →
          cond x (b ∷ opens (b + 1) (slice_set gs i g)) (opens (b + 1) (slice_set gs i g))
          ≡ filter (λ j. not (j == b + suc i)) (cond x (b ∷ opens (b + 1) gs) (opens (b + 1) gs))
      by true rest = ap (λ (js : List ℕ). b ∷ js) rest
          ∙ (λ k. cond (not (sym apart k)) (b ∷ filter (λ j. not (j == b + suc i)) (opens (b + 1) gs))
          (filter (λ j. not (j == b + suc i)) (opens (b + 1) gs)))
      by false rest = rest

  -- a frame that is marked is of whom it was
  marked_at : (test : ℕ → ℕ → FrameKind → Bool) (gs : List Frame) (i : ℕ) (f g : Frame) → slice_get gs i ≡ Some f →
      frame_test test (Some g) ≡ frame_test test (Some f) → (k : ℕ) → frame_test test (slice_get (slice_set gs i g) k) ≡ frame_test test
      (slice_get gs k)
  marked_at test [] i f g at same k = refl
  marked_at test (h ∷ gs) zero f g at same zero = let here : h ≡ f = cc at in same ∙ ap (λ (x : Frame). frame_test test (Some x)) (sym here)
  marked_at test (h ∷ gs) zero f g at same (suc k) = refl
  marked_at test (h ∷ gs) (suc i) f g at same zero = refl
  marked_at test (h ∷ gs) (suc i) f g at same (suc k) = marked_at test gs i f g at same k

  -- the line closes this frame
  record Closes (k : ℕ) (b : Body) : Type 0 where
    pub last : (j : ℕ) → frame_step b j ≡ j
    pub pending : (ks : List ℕ) → open_step b ks ≡ filter (λ j. not (j == k)) ks
    pub down : (n : ℕ) (d : Bool) → down_step n b d ≡ d
    pub sent : (test : ℕ → ℕ → FrameKind → Bool) (j : ℕ) → sends test j b ≡ false

  closed_tells : (k : ℕ) (b : Body) (f g : Frame) → Closes k b → at_place k fs ≡ Some f → is_open_frame g ≡ false →
      ((test : ℕ → ℕ → FrameKind → Bool) → frame_test test (Some g) ≡ frame_test test (Some f)) → Tells st ls fs ns →
      Tells st (ls ++ record { event = e; body = b } ∷ []) (set_place k g fs) ns
  closed_tells zero b f g c at shut same t = let no_way : ◌≡◌ {A = Option Frame} None (Some f) = at in absurd (cc no_way)
  closed_tells (suc i) b f g c at shut same t = record {
    last = last_on e b 0 ls ∙ c.last (last_frame ls) ∙ t.last ∙ sym (long fs i);
    frames = λ test k. is_on e b test k ls ∙ ap (λ x. frame_is test ls k || x) (c.sent test k) ∙ or_false (frame_is test ls k) ∙ t.frames
        test k
        ∙ sym (marked test k);
    pending = open_on e b [] ls ∙ c.pending (open_frames ls) ∙ ap (filter (λ j. not (j == suc i))) t.pending
        ∙ ap (λ c. filter (λ j. not (j == c)) (opens 1 fs)) (one i) ∙ sym (closed_at 1 fs i g shut);
    ups = λ n m at. down_on e b n (not (st.up n)) ls ∙ c.down n (is_down st ls n) ∙ t.ups n m at;
  }
    where
      one : (i : ℕ) → suc i ≡ 1 + i
      one i = omega arith

      long : (gs : List Frame) (i : ℕ) → length (slice_set gs i g) ≡ length gs
      long [] i = refl
      long (h ∷ gs) zero = refl
      long (h ∷ gs) (suc i) = ap suc (long gs i)

      marked : (test : ℕ → ℕ → FrameKind → Bool) (k : ℕ) → frame_test test (at_place k (slice_set fs i g)) ≡ frame_test test (at_place k fs)
      marked test zero = refl
      marked test (suc k) = marked_at test fs i f g at (same test) k

  -- ---- a node stops, and is up again

  apart : (k n : ℕ) → (k == n) ≡ false → n ≢ k
  apart k n e = grind (arith, nat_tests)

  turned_tells : (k : ℕ) (b : Body) (x y : Node) (up : Bool) → ((j : ℕ) → frame_step b j ≡ j) → ((ks : List ℕ) → open_step b ks ≡ ks) →
      ((test : ℕ → ℕ → FrameKind → Bool) (j : ℕ) → sends test j b ≡ false) → ((n : ℕ) (d : Bool) → down_step n b d ≡ cond (k == n) (not up)
      d) →
      is_some x.live ≡ up → at_place k ns ≡ Some y → Tells st ls fs ns →
      Tells st (ls ++ record { event = e; body = b } ∷ []) fs (set_place k x ns)
  turned_tells k b x y up last pending sent down is there t = record {
    last = last_on e b 0 ls ∙ last (last_frame ls) ∙ t.last;
    frames = λ test j. is_on e b test j ls ∙ ap (λ z. frame_is test ls j || z) (sent test j) ∙ or_false (frame_is test ls j) ∙ t.frames
        test j;
    pending = open_on e b [] ls ∙ pending (open_frames ls) ∙ t.pending;
    ups = λ n m at. down_on e b n (not (st.up n)) ls ∙ down n (is_down st ls n) ∙ by n m (k == n) refl at;
  }
    where
      by : (n : ℕ) (m : Node) (c : Bool) → (k == n) ≡ c → at_place n (set_place k x ns) ≡ Some m →
          cond c (not up) (is_down st ls n) ≡ not (is_some m.live)
      by n m true e at =
          let same : k ≡ n = eqb-true k n e in
          let here : Some x ≡ Some m = sym (place_same k x y ns there) ∙ ap (λ j. at_place j (set_place k x ns)) same ∙ at in
          let it : x ≡ m = cc here in
          ap not (sym is) ∙ ap (λ (z : Node). not (is_some z.live)) it
      by n m false e at = t.ups n m (sym (place_other k n x ns (apart k n e)) ∙ at)

  -- what a node becomes is nothing to it where it stays up, or down
  pub same_tells : (k : ℕ) (x y : Node) → at_place k ns ≡ Some y → is_some x.live ≡ is_some y.live → Tells st ls fs ns →
      Tells st ls fs (set_place k x ns)
  same_tells k x y there same t = record {
    last = t.last;
    frames = t.frames;
    pending = t.pending;
    ups = λ n m at. by n m (k == n) refl at;
  }
    where
      by : (n : ℕ) (m : Node) (c : Bool) → (k == n) ≡ c → at_place n (set_place k x ns) ≡ Some m → is_down st ls n ≡ not (is_some m.live)
      by n m true e at =
          let here : k ≡ n = eqb-true k n e in
          let found : Some x ≡ Some m = sym (place_same k x y ns there) ∙ ap (λ j. at_place j (set_place k x ns)) here ∙ at in
          let it : x ≡ m = cc found in
          t.ups n y (ap (λ j. at_place j ns) (sym here) ∙ there) ∙ ap not (sym same) ∙ ap (λ (z : Node). not (is_some z.live)) it
      by n m false e at = t.ups n m (sym (place_other k n x ns (apart k n e)) ∙ at)

-- ---- a frame was sent

-- one that was sent is there
pub has_is : (ls : List Line) (k : ℕ) → has_frame ls k ≡ frame_is (λ from to what. true) ls k
has_is [] k = refl
has_is (l ∷ ls) k = λ i. same l.body i || has_is ls k i
  where
    and_true : (x : Bool) → x ≡ (x && true)
    and_true true = refl
    and_true false = refl

    same : (b : Body) → is_sent k b ≡ sends (λ from to what. true) k b
    same (body.Sent j from to what) = and_true (j == k)
    same (body.Began a b c d) = refl
    same (body.Ok a b c d) = refl
    same (body.Includes a b c) = refl
    same (body.Conflict a b c d) = refl
    same (body.Lost a b) = refl
    same (body.Changed a b c) = refl
    same (body.Committing a) = refl
    same (body.Committed a) = refl
    same (body.Ended a) = refl
    same (body.Aborted a b) = refl
    same (body.GaveUp a b) = refl
    same (body.Excluded a b c) = refl
    same (body.Granted a b c d) = refl
    same (body.Lowered a b c) = refl
    same (body.Bound a b c) = refl
    same (body.Active a b c) = refl
    same (body.Told a b c d) = refl
    same (body.Prepared a b c) = refl
    same (body.Done a b c d) = refl
    same (body.Got a) = refl
    same (body.Void a) = refl
    same (body.Dropped a) = refl
    same (body.Halted a) = refl
    same (body.Up a b) = refl
    same (body.Armed a) = refl
    same (body.Recovered a b) = refl
    same (body.Refused a) = refl
    same (body.Entry a b c d) = refl
    same (body.Copy a b c d e) = refl
    same (body.Quiet a) = refl
    same (body.Bad a) = refl
    same (body.Limit a) = refl

-- ---- lines that tell nothing

-- the line tells nothing of frames, and of no node that it is up or down
abbrev pub tells_nothing : Body → Bool
tells_nothing (body.Sent k from to what) = false
tells_nothing (body.Got k) = false
tells_nothing (body.Void k) = false
tells_nothing (body.Dropped k) = false
tells_nothing (body.Halted n) = false
tells_nothing (body.Up n i) = false
tells_nothing _ = true

still_by : (b : Body) → tells_nothing b ≡ true → IsStill b
still_by (body.Began a b c d) is = record { last = λ k. refl; pending = λ ks. refl; down = λ n d. refl; sent = λ test k. refl }
still_by (body.Ok a b c d) is = record { last = λ k. refl; pending = λ ks. refl; down = λ n d. refl; sent = λ test k. refl }
still_by (body.Includes a b c) is = record { last = λ k. refl; pending = λ ks. refl; down = λ n d. refl; sent = λ test k. refl }
still_by (body.Conflict a b c d) is = record { last = λ k. refl; pending = λ ks. refl; down = λ n d. refl; sent = λ test k. refl }
still_by (body.Lost a b) is = record { last = λ k. refl; pending = λ ks. refl; down = λ n d. refl; sent = λ test k. refl }
still_by (body.Changed a b c) is = record { last = λ k. refl; pending = λ ks. refl; down = λ n d. refl; sent = λ test k. refl }
still_by (body.Committing a) is = record { last = λ k. refl; pending = λ ks. refl; down = λ n d. refl; sent = λ test k. refl }
still_by (body.Committed a) is = record { last = λ k. refl; pending = λ ks. refl; down = λ n d. refl; sent = λ test k. refl }
still_by (body.Ended a) is = record { last = λ k. refl; pending = λ ks. refl; down = λ n d. refl; sent = λ test k. refl }
still_by (body.Aborted a b) is = record { last = λ k. refl; pending = λ ks. refl; down = λ n d. refl; sent = λ test k. refl }
still_by (body.GaveUp a b) is = record { last = λ k. refl; pending = λ ks. refl; down = λ n d. refl; sent = λ test k. refl }
still_by (body.Excluded a b c) is = record { last = λ k. refl; pending = λ ks. refl; down = λ n d. refl; sent = λ test k. refl }
still_by (body.Granted a b c d) is = record { last = λ k. refl; pending = λ ks. refl; down = λ n d. refl; sent = λ test k. refl }
still_by (body.Lowered a b c) is = record { last = λ k. refl; pending = λ ks. refl; down = λ n d. refl; sent = λ test k. refl }
still_by (body.Bound a b c) is = record { last = λ k. refl; pending = λ ks. refl; down = λ n d. refl; sent = λ test k. refl }
still_by (body.Active a b c) is = record { last = λ k. refl; pending = λ ks. refl; down = λ n d. refl; sent = λ test k. refl }
still_by (body.Told a b c d) is = record { last = λ k. refl; pending = λ ks. refl; down = λ n d. refl; sent = λ test k. refl }
still_by (body.Prepared a b c) is = record { last = λ k. refl; pending = λ ks. refl; down = λ n d. refl; sent = λ test k. refl }
still_by (body.Done a b c d) is = record { last = λ k. refl; pending = λ ks. refl; down = λ n d. refl; sent = λ test k. refl }
still_by (body.Sent a b c d) is = let no_way : false ≡ true = is in cc
still_by (body.Got a) is = let no_way : false ≡ true = is in cc
still_by (body.Void a) is = let no_way : false ≡ true = is in cc
still_by (body.Dropped a) is = let no_way : false ≡ true = is in cc
still_by (body.Halted a) is = let no_way : false ≡ true = is in cc
still_by (body.Up a b) is = let no_way : false ≡ true = is in cc
still_by (body.Armed a) is = record { last = λ k. refl; pending = λ ks. refl; down = λ n d. refl; sent = λ test k. refl }
still_by (body.Recovered a b) is = record { last = λ k. refl; pending = λ ks. refl; down = λ n d. refl; sent = λ test k. refl }
still_by (body.Refused a) is = record { last = λ k. refl; pending = λ ks. refl; down = λ n d. refl; sent = λ test k. refl }
still_by (body.Entry a b c d) is = record { last = λ k. refl; pending = λ ks. refl; down = λ n d. refl; sent = λ test k. refl }
still_by (body.Copy a b c d e) is = record { last = λ k. refl; pending = λ ks. refl; down = λ n d. refl; sent = λ test k. refl }
still_by (body.Quiet a) is = record { last = λ k. refl; pending = λ ks. refl; down = λ n d. refl; sent = λ test k. refl }
still_by (body.Bad a) is = record { last = λ k. refl; pending = λ ks. refl; down = λ n d. refl; sent = λ test k. refl }
still_by (body.Limit a) is = record { last = λ k. refl; pending = λ ks. refl; down = λ n d. refl; sent = λ test k. refl }

module _ (st : Start) (e : ℕ) (ls : List Line) (fs : List Frame) (ns : List Node) where
  abbrev on : Body → List Line
  on b = ls ++ record { event = e; body = b } ∷ []

  pub nothing_tells : (b : Body) → tells_nothing b ≡ true → Tells st ls fs ns → Tells st (on b) fs ns
  nothing_tells b is t = still_tells st e ls fs ns b (still_by b is) t

  pub send_tells : (from to : ℕ) (m : Option Message) → Tells st ls fs ns →
      Tells st (on (body.Sent (length fs + 1) from to (carried_by m))) (fs ++ new_frame from to m ∷ []) ns
  send_tells from to m t = sent_tells st e ls fs ns (new_frame from to m) refl t

  pub got_tells : (k : ℕ) (f : Frame) → at_place k fs ≡ Some f → Tells st ls fs ns → Tells st (on (body.Got k))
      (set_place k (as_delivered f) fs) ns
  got_tells k f at t = closed_tells st e ls fs ns k (body.Got k) f (as_delivered f)
      (record { last = λ j. refl; pending = λ ks. refl; down = λ n d. refl; sent = λ test j. refl }) at refl (λ test. refl) t

  pub void_tells : (k : ℕ) (f : Frame) → at_place k fs ≡ Some f → Tells st ls fs ns → Tells st (on (body.Void k))
      (set_place k (as_delivered f) fs) ns
  void_tells k f at t = closed_tells st e ls fs ns k (body.Void k) f (as_delivered f)
      (record { last = λ j. refl; pending = λ ks. refl; down = λ n d. refl; sent = λ test j. refl }) at refl (λ test. refl) t

  pub dropped_tells : (k : ℕ) (f : Frame) → at_place k fs ≡ Some f → Tells st ls fs ns → Tells st (on (body.Dropped k))
      (set_place k (as_lost f) fs) ns
  dropped_tells k f at t = closed_tells st e ls fs ns k (body.Dropped k) f (as_lost f)
      (record { last = λ j. refl; pending = λ ks. refl; down = λ n d. refl; sent = λ test j. refl }) at (shut f.delivered) (λ test. refl) t
    where
      shut : (b : Bool) → not (b || true) ≡ false
      shut true = refl
      shut false = refl

  pub halted_tells : (k : ℕ) (x y : Node) → is_some x.live ≡ false → at_place k ns ≡ Some y → Tells st ls fs ns →
      Tells st (on (body.Halted k)) fs (set_place k x ns)
  halted_tells k x y off there t =
      turned_tells st e ls fs ns k (body.Halted k) x y false (λ j. refl) (λ ks. refl) (λ test j. refl) (λ n d. refl) off there t

  pub up_tells : (k i : ℕ) (x y : Node) → is_some x.live ≡ true → at_place k ns ≡ Some y → Tells st ls fs ns →
      Tells st (on (body.Up k i)) fs (set_place k x ns)
  up_tells k i x y on there t =
      turned_tells st e ls fs ns k (body.Up k i) x y true (λ j. refl) (λ ks. refl) (λ test j. refl) (λ n d. refl) on there t
