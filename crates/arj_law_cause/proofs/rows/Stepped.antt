-- A step of a node in its world: what stores have prepared may be pending behind it, of each line by which an action commits it is known
-- what was seen then, and frames with a Prepare have their lines.
use Rattle.arj_law_parts.proofs.Words
use Words.{◌≡◌, ◌≢◌, ◌⊎◌, ◌∙◌, ◌==◌, ◌&&◌, ◌||◌, ◌++◌, ◌+◌, ◌-◌, ◌≤◌, ◌<◌, ℕ, zero, suc, Bool, true, false, cond}
use Words.{if◌then◌else◌, List, []}
use Words.{◌∷◌, Option, Some, None, refl, sym, ap, subst, inl, inr, ⊎_elim, arith, nat_tests, nat_lt, nat_le, take}
use Words.{length, length-append}
use Words.{append_assoc, eqb-true, eq-eqb, list_all, and_parts, AllByRecursion, slice_get, at_place, set_place}
use Words.{place_other}
use Words.{all_both, AreAll, Body, Event, Frame, Header, Line, Message, Uid, Disk, Do, Effect}
use Words.{Say}
use Words.{Seen, Send, Stop, worked, is_prepared, Parts, Node, Input, Step, step, step_with}
use Words.{refusal_at, World, Arm, armed, disarmed, bodies, count_works, cut, done_step}
use Words.{frame_kind, frames_with, halted_at, halted_outs, most_frames, new_frame, numbered, sends, sent_line, Post}
use Words.body
use Words.frame
use Words.input
use Rattle.arj_law_parts.proofs.moves.{Cuts.flat_cut, Cuts.flat_done, Inputs.Goes, Inputs.MayCome, Inputs.noted}
use Rattle.arj_law_parts.proofs.moves.{Inputs.step_goes, Places.place_same, Worlds.node_is, Worlds.sees_node}
use Rattle.arj_law_parts.proofs.steps.Shapes
use Shapes.{Shape, IsCrash, IsGot, IsNothing, IsPlain, IsRefusal, IsRestart, IsUnread, IsVoid, is_frame}
use Rattle.arj_law_parts.proofs.steps.Still.{Still, is_still, says_still}
use Rattle.arj_law_parts.specs.moves.Keeps.{Holds}
use Rattle.arj_law_parts.specs.moves.Moments.{History, Moment, halted, with_node}
use Rattle.arj_law_parts.specs.moves.Seen.{AreQuiet, Within}
use Rattle.arj_law_parts.specs.moves.With.{KeepsSteps, look}
use Rattle.arj_law_runs.proofs.follow.Walking.{frames_full, frames_none}
use Rattle.arj_law_runs.proofs.kept.Walked.{same_number}
use Rattle.arj_model.specs.CausePends.{frame_is, is_crash_at, is_prepare}
use Rattle.arj_model.specs.CausePends as model
use Rattle.std.specs.Prelude.{drop}
use Rattle.arj_model.specs.CauseSpans.{same_frame}
use Rattle.arj_model.specs.Past.{Asked as AskedOf, nothing_yet}
use Rattle.arj_protocol.specs.Words.{FrameKind}
use Rattle.arj_law_cause.proofs.confirm.Reached.{Reached}
use Rattle.arj_law_cause.proofs.rows.Watching.{AreAsked, Right}
use Rattle.arj_law_cause.proofs.rows.Pends.{NoDone, Pends, all_keep, pends_more, quiet_keeps}
use Rattle.arj_law_cause.proofs.rows.Stops.{are_own, drop_all, frame_more, is_calm, is_got, is_own}
use Rattle.arj_law_cause.proofs.rows.Watches.{SaysSo, in_step}
use Rattle.arj_law_cause.proofs.stores.Moments.{AreSaid, Kept, kept_steps, mute_more, quiet_all}
use Rattle.arj_law_cause.proofs.stores.Shapes.{goes}

-- ---- frames have lines

-- each of these frames that holds a Prepare has its line among these, by its number
abbrev pub Told : List Frame → List Line → Type 0
Told fs ls = (j : ℕ) (f : Frame) (m : Message) → at_place j fs ≡ Some f → f.message ≡ Some m →
    same_frame (frame_kind m) frame.Prepare ≡ true →
    frame_is (is_prepare f.from f.to) ls j ≡ true

pub told_more : (fs : List Frame) (ls ms : List Line) → Told fs ls → Told fs (ls ++ ms)
told_more fs ls ms h j f m at is kind = frame_more (is_prepare f.from f.to) j ls ms (h j f m at is kind)

-- a frame behind others
got_behind : (xs : List Frame) (y : Frame) (j : ℕ) (a : Frame) → slice_get (xs ++ y ∷ []) j ≡ Some a →
    (slice_get xs j ≡ Some a) ⊎ ((j ≡ length xs) × (y ≡ a))
got_behind [] y zero a h = inr (refl, cc h)
got_behind [] y (suc j) a h = absurd (cc h)
got_behind (x ∷ xs) y zero a h = inl h
got_behind (x ∷ xs) y (suc j) a h = ⊎_elim {C = (slice_get xs j ≡ Some a) ⊎ ((suc j ≡ suc (length xs)) × (y ≡ a))}
    (λ old. inl old) (λ new. inr (ap suc new.0, new.1)) (got_behind xs y j a h)

pub place_behind : (xs : List Frame) (y : Frame) (j : ℕ) (a : Frame) → at_place j (xs ++ y ∷ []) ≡ Some a →
    (at_place j xs ≡ Some a) ⊎ ((j ≡ length xs + 1) × (y ≡ a))
place_behind xs y zero a h = absurd (cc h)
place_behind xs y (suc j) a h = ⊎_elim {C = (slice_get xs j ≡ Some a) ⊎ ((suc j ≡ length xs + 1) × (y ≡ a))}
    (λ old. inl old) (λ new. let same = new.0 in inr (omega (arith, same), new.1)) (got_behind xs y j a h)

last_is : (test : ℕ → ℕ → FrameKind → Bool) (j : ℕ) (ls : List Line) (l : Line) → model.sends test j l.body ≡ true →
    frame_is test (ls ++ l ∷ []) j ≡ true
last_is test j [] l is = λ i. is i || false
last_is test j (x ∷ xs) l is = or_right (model.sends test j x.body) (frame_is test (xs ++ l ∷ []) j)
    (last_is test j xs l is)
  where
    or_right : (a b : Bool) → b ≡ true → (a || b) ≡ true
    or_right true b is = refl
    or_right false b is = is

told_one : (fs : List Frame) (ls : List Line) (e k to : ℕ) (m : Message) → Told fs ls →
    Told (fs ++ new_frame k to (Some m) ∷ []) (ls ++ numbered e (body.Sent (length fs + 1) k to (frame_kind m) ∷ []))
told_one fs ls e k to m h j f x at is kind = ⊎_elim {C = frame_is (is_prepare f.from f.to) (ls ++ line ∷ []) j ≡ true}
    (λ old. frame_more (is_prepare f.from f.to) j ls (line ∷ []) (h j f x old is kind))
    (λ new. subst (λ (g : Frame). frame_is (is_prepare g.from g.to) (ls ++ line ∷ []) j ≡ true) new.1
    (last_is (is_prepare k to) j ls line (λ i. eq-eqb (length fs + 1) j (sym new.0) i && (same_number k i && (same_number to i &&
    its (let z : Some m ≡ Some x = ap (λ (g : Frame). g.message) new.1 ∙ is in cc z) i)))))
    (place_behind fs (new_frame k to (Some m)) j f at)
  where
    line : Line
    line = record { event = e; body = body.Sent (length fs + 1) k to (frame_kind m) }

    its : m ≡ x → same_frame (frame_kind m) frame.Prepare ≡ true
    its same = ap (λ y. same_frame (frame_kind y) frame.Prepare) same ∙ kind

-- what a node sends
told_put : (k e : ℕ) (outs : List Effect) (fs : List Frame) (ls : List Line) → Told fs ls →
    Told (frames_with fs (sends k outs)) (ls ++ numbered e (bodies k (length fs) outs))
told_put k e [] fs ls h = subst (λ gs. Told gs (ls ++ [])) (sym (frames_none fs)) (told_more fs ls [] h)
told_put k e (Say b ∷ es) fs ls h = subst (Told (frames_with fs (sends k es)))
    (append_assoc ls (numbered e (b ∷ [])) (numbered e (bodies k (length fs) es)))
    (told_put k e es fs (ls ++ numbered e (b ∷ [])) (told_more fs ls (numbered e (b ∷ [])) h))
told_put k e (Do w ∷ es) fs ls h = told_put k e es fs ls h
told_put k e (Send to m ∷ es) fs ls h = by (nat_lt (length fs) most_frames) refl
    (told_put k e es (fs ++ new_frame k to (Some m) ∷ []) (ls ++ numbered e (body.Sent (length fs + 1) k to (frame_kind m) ∷ []))
    (told_one fs ls e k to m h))
  where
    by : (b : Bool) → nat_lt (length fs) most_frames ≡ b →
        Told (frames_with (fs ++ new_frame k to (Some m) ∷ []) (sends k es))
        ((ls ++ numbered e (body.Sent (length fs + 1) k to (frame_kind m) ∷ []))
        ++ numbered e (bodies k (length (fs ++ new_frame k to (Some m) ∷ [])) es)) →
        Told (frames_with fs (new_frame k to (Some m) ∷ sends k es))
        (ls ++ numbered e (sent_line (length fs + 1) k to (frame_kind m) ++ bodies k (length fs + 1) es))
    by false full rest = subst (λ gs. Told gs (ls ++ numbered e (sent_line (length fs + 1) k to (frame_kind m) ++ bodies k
        (length fs + 1) es)))
        (sym (frames_full fs (new_frame k to (Some m) ∷ sends k es) over))
        (told_more fs ls (numbered e (sent_line (length fs + 1) k to (frame_kind m) ++ bodies k (length fs + 1) es)) h)
      where
        over : most_frames ≤ length fs
        over = grind (arith, nat_tests, full)
    by true fit rest = subst (λ gs. Told gs (ls ++ numbered e (sent_line (length fs + 1) k to (frame_kind m) ++ bodies k
        (length fs + 1) es)))
        (sym frames)
        (subst (λ (ss : List Body). Told (frames_with (fs ++ new_frame k to (Some m) ∷ []) (sends k es))
        (ls ++ numbered e (ss ++ bodies k (length fs + 1) es))) (sym line)
        (subst (Told (frames_with (fs ++ new_frame k to (Some m) ∷ []) (sends k es)))
        (append_assoc ls (numbered e (body.Sent (length fs + 1) k to (frame_kind m) ∷ [])) (numbered e (bodies k (length fs + 1) es)))
        (subst (λ n. Told (frames_with (fs ++ new_frame k to (Some m) ∷ []) (sends k es))
        ((ls ++ numbered e (body.Sent (length fs + 1) k to (frame_kind m) ∷ [])) ++ numbered e (bodies k n es)))
        (length-append fs (new_frame k to (Some m) ∷ [])) rest)))
      where
        few : length fs < most_frames
        few = grind (arith, nat_tests, fit)

        within : nat_le (length fs + 1) most_frames ≡ true
        within = grind (arith, nat_tests, few)

        less : most_frames - length fs ≡ suc (most_frames - length (fs ++ new_frame k to (Some m) ∷ []))
        less = let long = length-append fs (new_frame k to (Some m) ∷ []) in omega (arith, few, long)

        line : sent_line (length fs + 1) k to (frame_kind m) ≡ body.Sent (length fs + 1) k to (frame_kind m) ∷ []
        line = λ i. if within i then body.Sent (length fs + 1) k to (frame_kind m) ∷ [] else []

        frames : frames_with fs (new_frame k to (Some m) ∷ sends k es) ≡ frames_with (fs ++ new_frame k to (Some m) ∷ []) (sends k es)
        frames = ap (λ n. fs ++ take n (new_frame k to (Some m) ∷ sends k es)) less
            ∙ sym (append_assoc fs (new_frame k to (Some m) ∷ []) (take (most_frames - length (fs ++ new_frame k to (Some m) ∷ []))
            (sends k es)))

-- a frame that is marked has its line still
pub told_set : (j : ℕ) (f g : Frame) (fs : List Frame) (ls : List Line) → at_place j fs ≡ Some f → g.from ≡ f.from → g.to ≡ f.to →
    g.message ≡ f.message → Told fs ls → Told (set_place j g fs) ls
told_set j f g fs ls at from to message h i x m there is kind = by (i == j) refl
  where
    apart : (i == j) ≡ false → i ≢ j
    apart e = grind (arith, nat_tests, e)

    by : (b : Bool) → (i == j) ≡ b → frame_is (is_prepare x.from x.to) ls i ≡ true
    by true e =
        let same = eqb-true i j e in
        let one : g ≡ x = (let z : Some g ≡ Some x = sym (place_same j g f fs at) ∙ ap (λ n. at_place n (set_place j g fs))
        (sym same) ∙ there in
        cc z) in
        (λ t. frame_is (is_prepare (let y = sym one t in y.from) (let y = sym one t in y.to)) ls (same t))
        ∙ (λ t. frame_is (is_prepare (from t) (to t)) ls j)
        ∙ h j f m at (sym message ∙ ap (λ (y : Frame). y.message) one ∙ is) kind
    by false e = h i x m (sym (place_other j i g fs (apart e)) ∙ there) is kind

-- ---- lines of a step

-- the test of an effect's own line
abbrev says_by : (Body → Bool) → Effect → Bool
says_by t (Say b) = t b
says_by t e = true

module _ (t : Body → Bool) (k : ℕ) (sent : (j to : ℕ) (what : FrameKind) → t (body.Sent j k to what) ≡ true) where
  all_lines : (e l : ℕ) (outs : List Effect) → AreAll (says_by t) outs →
      list_all (λ (x : Line). t x.body) (numbered e (bodies k l outs)) ≡ true
  all_lines e l [] all = refl
  all_lines e l (Say b ∷ es) all = let p = and_parts (t b) (list_all (says_by t) es) all in λ i. p.0 i && all_lines e l es p.1 i
  all_lines e l (Do w ∷ es) all = all_lines e l es all
  all_lines e l (Send to m ∷ es) all = by (nat_le (l + 1) most_frames) (all_lines e (l + 1) es all)
    where
      by : (b : Bool) → list_all (λ (x : Line). t x.body) (numbered e (bodies k (l + 1) es)) ≡ true →
          list_all (λ (x : Line). t x.body)
          (numbered e ((if b then body.Sent (l + 1) k to (frame_kind m) ∷ [] else []) ++ bodies k (l + 1) es)) ≡ true
      by true rest = λ i. sent (l + 1) to (frame_kind m) i && rest i
      by false rest = rest

  -- what is still passes
  still_all : ((b : Body) → is_still b ≡ true → t b ≡ true) → (outs : List Effect) → Still outs → AreAll (says_by t) outs
  still_all each [] still = refl
  still_all each (Say b ∷ es) still = let p = and_parts (is_still b) (list_all says_still es) still in
      λ i. each b p.0 i && still_all each es p.1 i
  still_all each (Do w ∷ es) still = still_all each es still
  still_all each (Send to m ∷ es) still = still_all each es still

  cut_all : (c : ℕ) (how : Stop) (es : List Effect) (d : Disk) → AreAll (says_by t) es → AreAll (says_by t) (cut c how es d).outs
  cut_all c how [] d all = refl
  cut_all zero how (Do w ∷ es) d all = refl
  cut_all (suc c) how (Do w ∷ es) d all = cut_all c how es (worked w d) all
  cut_all zero how (Say b ∷ es) d all = let p = and_parts (t b) (list_all (says_by t) es) all in λ i. p.0 i && cut_all zero how es d p.1 i
  cut_all (suc c) how (Say b ∷ es) d all = let p = and_parts (t b) (list_all (says_by t) es) all in
      λ i. p.0 i && cut_all (suc c) how es d p.1 i
  cut_all zero how (Send to m ∷ es) d all = cut_all zero how es d all
  cut_all (suc c) how (Send to m ∷ es) d all = cut_all (suc c) how es d all

still_own : (k : ℕ) (b : Body) → is_still b ≡ true → is_own k b ≡ true
still_own k (body.Sent j from to what) is = absurd (cc is)
still_own k (body.Halted n) is = absurd (cc is)
still_own k (body.Got j) is = absurd (cc is)
still_own k b is = refl

still_calm : (k : ℕ) (b : Body) → is_still b ≡ true → is_calm k b ≡ true
still_calm k (body.Sent j from to what) is = absurd (cc is)
still_calm k (body.Halted n) is = absurd (cc is)
still_calm k (body.Got j) is = absurd (cc is)
still_calm k b is = refl

own_sends : (k j to : ℕ) (what : FrameKind) → is_own k (body.Sent j k to what) ≡ true
own_sends k j to what = same_number k

calm_sends : (k j to : ℕ) (what : FrameKind) → is_calm k (body.Sent j k to what) ≡ true
calm_sends k j to what = same_number k

-- Whatever stop falls, the step's lines are those of the node that takes this frame.
pub record IsOwn (k : ℕ) (f : Option ℕ) (s : Step) : Type 0 where
  pub done : (e l : ℕ) → are_own k e f (numbered e (bodies k l s.outs)) ≡ true
  pub stopped : (e l c : ℕ) (how : Stop) (d : Disk) → are_own k e f (numbered e (bodies k l (halted_outs k (cut c how s.halting d)))) ≡ true

module _ (hd : Header) (k : ℕ) (n : Node) (number : n.number ≡ k) where
  abbrev Own : List Effect → Type 0
  Own es = AreAll (says_by (is_own k)) es

  with_halt : (c : ℕ) (how : Stop) (es : List Effect) (d : Disk) → Own es → Own (halted_outs k (cut c how es d))
  with_halt c how es d all = all_both (says_by (is_own k)) (cut c how es d).outs (Say (body.Halted k) ∷ [])
      (cut_all (is_own k) k (own_sends k) c how es d all) (λ i. same_number k i && true)

  plain : (s : Step) → Own s.outs → Own s.halting → IsOwn k None s
  plain s outs halting = record {
    done = λ e l. all_lines (is_own k) k (own_sends k) e l s.outs outs;
    stopped = λ e l c how d. all_lines (is_own k) k (own_sends k) e l (halted_outs k (cut c how s.halting d))
        (with_halt c how s.halting d halting);
  }

  -- it takes no frame
  pub plain_own : (i : Input) (s : Step) → is_frame i ≡ false → (i ≡ input.Crash → ⊥) → Shape hd n i s → IsOwn k None s
  plain_own i s other alive (IsRefusal c is same) = plain s (ap (λ (z : Step). list_all (says_by (is_own k)) z.outs) same)
      (ap (λ (z : Step). list_all (says_by (is_own k)) z.halting) same)
  plain_own i s other alive (IsNothing o outs halting after) = plain s (ap (list_all (says_by (is_own k))) outs)
      (ap (list_all (says_by (is_own k))) halting)
  plain_own i s other alive (IsPlain o up all same live) =
      let own = still_all (is_own k) k (own_sends k) (still_own k) s.outs all in plain s own (ap (list_all (says_by (is_own k))) same ∙ own)
  plain_own i s other alive (IsGot j from m o is up all outs halting live) = let no_way : true ≡ false = ap is_frame (sym is) ∙ other in
      absurd (cc no_way)
  plain_own i s other alive (IsVoid j from m o is up may all outs halting after) =
      let no_way : true ≡ false = ap is_frame (sym is) ∙ other in absurd (cc no_way)
  plain_own i s other alive (IsUnread j from m is why outs halting after) = let no_way : true ≡ false = ap is_frame (sym is) ∙ other in
      absurd (cc no_way)
  plain_own i s other alive (IsRestart inc o is off same all outs halting live) =
      let own = ap (list_all (says_by (is_own k))) outs ∙ still_all (is_own k) k (own_sends k) (still_own k) o all in
      plain s own (ap (list_all (says_by (is_own k))) halting ∙ own)
  plain_own i s other alive (IsCrash is up outs halting off) = absurd (alive is)

  -- it takes a frame
  got_own : (j e l : ℕ) (o : List Effect) → Own o → are_own k e (Some j) (numbered e (bodies k l (Say (body.Got j) ∷ o))) ≡ true
  got_own j e l o all = or_left (is_got j (body.Got j) && ((e == e) && list_all (λ (x : Line). is_own k x.body) (numbered e
      (bodies k l o))))
      (list_all (λ (x : Line). is_calm k x.body) (numbered e (body.Got j ∷ bodies k l o)))
      (λ i. same_number j i && (same_number e i && all_lines (is_own k) k (own_sends k) e l o all i))
    where
      or_left : (a b : Bool) → a ≡ true → (a || b) ≡ true
      or_left true b is = refl
      or_left false b is = absurd (cc is)

  got_stopped : (j e l c : ℕ) (how : Stop) (d : Disk) (o : List Effect) → Own o →
      are_own k e (Some j) (numbered e (bodies k l (halted_outs k (cut c how (Say (body.Got j) ∷ o) d)))) ≡ true
  got_stopped j e l zero how d o all = got_own j e l (halted_outs k (cut zero how o d)) (with_halt zero how o d all)
  got_stopped j e l (suc c) how d o all = got_own j e l (halted_outs k (cut (suc c) how o d)) (with_halt (suc c) how o d all)

  calm_own : (j e l : ℕ) (outs : List Effect) → AreAll (says_by (is_calm k)) outs →
      are_own k e (Some j) (numbered e (bodies k l outs)) ≡ true
  calm_own j e l outs all = by (numbered e (bodies k l outs)) (all_lines (is_calm k) k (calm_sends k) e l outs all)
    where
      by : (xs : List Line) → list_all (λ (x : Line). is_calm k x.body) xs ≡ true → are_own k e (Some j) xs ≡ true
      by [] is = refl
      by (x ∷ xs) is = last (is_got j x.body && ((x.event == e) && list_all (λ (y : Line). is_own k y.body) xs)) is
        where
          last : (b : Bool) {c : Bool} → c ≡ true → (b || c) ≡ true
          last true is = refl
          last false is = is

  frame_is_it : (j i from x : ℕ) (m y : Option Message) → input.Frame j from m ≡ input.Frame i x y → j ≡ i
  frame_is_it j i from x m y is = cc is

  pub frame_own : (j from : ℕ) (m : Option Message) (s : Step) → Shape hd n (input.Frame j from m) s → IsOwn k (Some j) s
  frame_own j from m s (IsRefusal c is same) = by n.live is
    where
      by : (o : Option Parts) → refusal_at hd (input.Frame j from m) o ≡ Some c → IsOwn k (Some j) s
      by None refused = let no_way : ◌≡◌ {A = Option ℕ} None (Some c) = refused in absurd (cc no_way)
      by (Some t) refused = let no_way : ◌≡◌ {A = Option ℕ} None (Some c) = refused in absurd (cc no_way)
  frame_own j from m s (IsNothing other outs halting after) = let no_way : true ≡ false = other in absurd (cc no_way)
  frame_own j from m s (IsPlain other up all same live) = let no_way : true ≡ false = other in absurd (cc no_way)
  frame_own j from m s (IsGot i x y o is up all outs halting live) =
      let same = frame_is_it j i from x m (Some y) is in
      let own = still_all (is_own k) k (own_sends k) (still_own k) o all in
      subst (λ a. IsOwn k (Some a) s) (sym same) (record {
        done = λ e l. (λ t. are_own k e (Some i) (numbered e (bodies k l (outs t)))) ∙ got_own i e l o own;
        stopped = λ e l c how d. (λ t. are_own k e (Some i) (numbered e (bodies k l (halted_outs k (cut c how (halting t) d)))))
            ∙ got_stopped i e l c how d o own;
      })
  frame_own j from m s (IsVoid i x y o is up may all outs halting after) =
      let same = frame_is_it j i from x m (Some y) is in
      subst (λ a. IsOwn k (Some a) s) (sym same) (record {
        done = λ e l. (λ t. are_own k e (Some i) (numbered e (bodies k l (outs t)))) ∙ calm_own i e l (o ++ Say (body.Void i) ∷ [])
            (all_both (says_by (is_calm k)) o (Say (body.Void i) ∷ []) (still_all (is_calm k) k (calm_sends k) (still_calm k) o all) refl);
        stopped = λ e l c how d. (λ t. are_own k e (Some i) (numbered e (bodies k l (halted_outs k (cut c how (halting t) d)))))
            ∙ got_stopped i e l c how d o (still_all (is_own k) k (own_sends k) (still_own k) o all);
      })
  frame_own j from m s (IsUnread i x y is why outs halting after) =
      let same = frame_is_it j i from x m y is in
      subst (λ a. IsOwn k (Some a) s) (sym same) (record {
        done = λ e l. (λ t. are_own k e (Some i) (numbered e (bodies k l (outs t)))) ∙ calm_own i e l (Say (body.Void i) ∷ []) refl;
        stopped = λ e l c how d. (λ t. are_own k e (Some i) (numbered e (bodies k l (halted_outs k (cut c how (halting t) d)))))
            ∙ got_stopped i e l c how d [] refl;
      })
  frame_own j from m s (IsRestart inc o is off same all outs halting live) =
      let no_way : true ≡ false = ap is_frame is in absurd (cc no_way)
  frame_own j from m s (IsCrash is up outs halting off) = let no_way : true ≡ false = ap is_frame is in absurd (cc no_way)

-- ---- what stores have prepared

-- so it is of all these nodes
abbrev pub AllPend : List AskedOf → List Node → List Line → Type 0
AllPend A ns ls = (j : ℕ) (n : Node) (u : Uid) → at_place j ns ≡ Some n → is_prepared u (let d = n.disk in d.store) ≡ true → Pends A ls j u

-- and of each of these lines by which an action commits what was seen then
abbrev pub AllKnown : List AskedOf → Header → List Node → List Line → Type 0
AllKnown A hd ns ls = AllPend A ns ls × AreSaid A hd [] ls

-- what is known of a world by which nodes do what they do
abbrev pub Knows : Header → Seen → Type 0
Knows hd S = Right S × Reached hd S

-- more lines, which end nothing
pub quiet_known : (A : List AskedOf) (hd : Header) (ns : List Node) (ls : List Line) (e : ℕ) (bs : List Body) → AreQuiet bs →
    AllKnown A hd ns ls → AllKnown A hd ns (ls ++ numbered e bs)
quiet_known A hd ns ls e bs quiet known = (
  λ j n u at held. pends_more A ls (numbered e bs) j u (quiet_keeps A e bs j u quiet) (known.0 j n u at held),
  mute_more A hd ls e bs (quiet_all bs quiet) known.1,
)

-- a node among others
seen_set : (k j : ℕ) (a n m : Node) (ns : List Node) → at_place k ns ≡ Some n → at_place j (set_place k a ns) ≡ Some m →
    cond (j == k) (Some a) (at_place j ns) ≡ Some m
seen_set k j a n m ns there is = by (j == k) refl
  where
    apart : (j == k) ≡ false → j ≢ k
    apart e = grind (arith, nat_tests, e)

    by : (b : Bool) → (j == k) ≡ b → cond b (Some a) (at_place j ns) ≡ Some m
    by true e = sym (place_same k a n ns there) ∙ ap (λ i. at_place i (set_place k a ns)) (sym (eqb-true j k e)) ∙ is
    by false e = sym (place_other k j a ns (apart e)) ∙ is

-- a history in which this event is under way, and has written nothing yet
abbrev pub since : Event → World → History
since e w = record {
  run = record nothing_yet { count = w.event; lines = w.lines };
  event = e;
  number = w.event;
  askings = [];
  frames = 0;
}

-- a step of this node, which takes this frame, if any, in a world of which so much is known
module _ (hd : Header) (A : List AskedOf) (w : World) (k : ℕ) (n : Node) (there : at_place k w.nodes ≡ Some n) (number : n.number ≡ k)
    (f from : Option ℕ) (alive : is_crash_at A k w.event ≡ false) where
  keeps : KeepsSteps hd (Kept A hd k w.event (length w.lines) f from alive)
  keeps = kept_steps A hd k w.event (length w.lines) f from alive

  abbrev Leaves : Step → Moment → Type 0
  Leaves s M = Goes hd (Kept A hd k w.event (length w.lines) f from alive)
      (kept_steps A hd k w.event (length w.lines) f from alive) k n.disk s M

  own_behind : (xs : List Line) → are_own k w.event f xs ≡ true → are_own k w.event f (drop (length w.lines) (w.lines ++ xs)) ≡ true
  own_behind xs own = ap (are_own k w.event f) (drop_all w.lines xs) ∙ own

  module _ (s : Step) (own : IsOwn k f s) (i : Input) (r : Option ℕ) (e : Event) (posts : List Post)
      (goes : Leaves s (noted hd (Kept A hd k w.event (length w.lines) f from alive)
      (kept_steps A hd k w.event (length w.lines) f from alive) k i n.live r (look (since e w) posts w))) where
    abbrev M : Moment
    M = noted hd (Kept A hd k w.event (length w.lines) f from alive)
        (kept_steps A hd k w.event (length w.lines) f from alive) k i n.live r (look (since e w) posts w)

    done_pends : AllPend A (set_place k s.after w.nodes) (w.lines ++ numbered w.event (bodies k (length w.frames) s.outs))
    done_pends j m u at held =
        let b = flat_done (Kept A hd k w.event (length w.lines) f from alive) k s.outs
        (λ c N. Kept A hd k w.event (length w.lines) f from alive (with_node k s.after N)) n.disk M (length w.frames) (inl refl)
        goes.0 in
        (b.3.1.0.0.1.1 (own_behind (numbered w.event (bodies k (length w.frames) s.outs)) (own.done w.event (length w.frames)))).1 j m u
        (seen_set k j s.after n m w.nodes there at) tt held

    done_said : AreSaid A hd [] (w.lines ++ numbered w.event (bodies k (length w.frames) s.outs))
    done_said =
        let b = flat_done (Kept A hd k w.event (length w.lines) f from alive) k s.outs
        (λ c N. Kept A hd k w.event (length w.lines) f from alive (with_node k s.after N)) n.disk M (length w.frames) (inl refl) goes.0 in
        b.3.1.1.1 (own_behind (numbered w.event (bodies k (length w.frames) s.outs)) (own.done w.event (length w.frames)))

    done_known : AllKnown A hd (set_place k s.after w.nodes) (w.lines ++ numbered w.event (bodies k (length w.frames) s.outs))
    done_known = (done_pends, done_said)

    stopped_pends : (c : ℕ) (how : Stop) → (let q = cut c how s.halting n.disk in
        AllPend A (set_place k (record n { disk = q.disk; live = None }) w.nodes)
        (w.lines ++ numbered w.event (bodies k (length w.frames) (halted_outs k q))))
    stopped_pends c how j m u at held =
        let q = cut c how s.halting n.disk in
        let b = flat_cut (Kept A hd k w.event (length w.lines) f from alive) k s.halting
        (λ c N. Kept A hd k w.event (length w.lines) f from alive (halted k c N)) n.disk M c how (length w.frames)
        (λ d N h. h) (inl refl) goes.1 in
        (b.3.0.0.1.1 (own_behind (numbered w.event (bodies k (length w.frames) (halted_outs k q)))
        (own.stopped w.event (length w.frames) c how n.disk))).1 j m u
        ((λ t. cond (j == k) (Some (record { number = sym number t; disk = q.disk; live = None })) (at_place j w.nodes))
        ∙ seen_set k j (record n { disk = q.disk; live = None }) n m w.nodes there at) tt held

    stopped_said : (c : ℕ) (how : Stop) → (let q = cut c how s.halting n.disk in
        AreSaid A hd [] (w.lines ++ numbered w.event (bodies k (length w.frames) (halted_outs k q))))
    stopped_said c how =
        let q = cut c how s.halting n.disk in
        let b = flat_cut (Kept A hd k w.event (length w.lines) f from alive) k s.halting
        (λ c N. Kept A hd k w.event (length w.lines) f from alive (halted k c N)) n.disk M c how (length w.frames) (λ d N h. h) (inl refl)
        goes.1 in
        b.3.1.1 (own_behind (numbered w.event (bodies k (length w.frames) (halted_outs k q)))
        (own.stopped w.event (length w.frames) c how n.disk))

    pub with_pends : (o : Option Arm) → AllKnown A hd (step_with k n s w o).nodes (step_with k n s w o).lines
    with_pends None = done_known
    with_pends (Some a) = by (nat_lt (count_works s.halting) a.works)
      where
        by : (b : Bool) → (let v = if b then done_step k s (armed k (record a { works = a.works - count_works s.halting }) w) else
            halted_at k n (cut (a.works - 1) a.how s.halting n.disk) (disarmed k w) in AllKnown A hd v.nodes v.lines)
        by true = done_known
        by false = (stopped_pends (a.works - 1) a.how, stopped_said (a.works - 1) a.how)

  -- whatever the node takes, where so much is known of what it may be asked
  pub node_pends : (h : Holds hd (Knows hd) w) → AllKnown A hd w.nodes w.lines → SaysSo k f from w.lines →
      (i : Input) (e : Event) (posts : List Post) →
      Within posts h.sent → AreAsked A (in_step A k w.event (length w.lines) f from alive) posts →
      MayCome hd (Kept A hd k w.event (length w.lines) f from alive)
      (kept_steps A hd k w.event (length w.lines) f from alive) k i (look (since e w) posts w) →
      IsOwn k f (step hd n i) → (o : Option Arm) →
      AllKnown A hd (step_with k n (step hd n i) w o).nodes (step_with k n (step hd n i) w o).lines
  node_pends h known says i e posts within asked may own o =
      with_pends (step hd n i) own i (refusal_at hd i n.live) e posts
      (subst (λ x. Leaves (step hd x i) (noted hd (Kept A hd k w.event (length w.lines) f from alive)
      (kept_steps A hd k w.event (length w.lines) f from alive) k i n.live (refusal_at hd i n.live)
      (look (since e w) posts w)))
      (node_is hd (Kept A hd k w.event (length w.lines) f from alive) keeps k n number)
      (step_goes hd (Kept A hd k w.event (length w.lines) f from alive) keeps k i n.disk n.live (look (since e w) posts w) may
      (sees_node hd (Kept A hd k w.event (length w.lines) f from alive) keeps k n (since e w) posts w there number begins))) o
    where
      same : (m : ℕ) → m ≤ m
      same m = omega arith

      begins : Kept A hd k w.event (length w.lines) f from alive (look (since e w) posts w)
      begins = (
        (
          (
            (h.sent, within, h.holds.0),
            ((refl, (same (length w.lines), says)), λ fits. (asked, λ j m u is matters held. known.0 j m u is held)),
          ),
          (h.sent, within, h.holds.1),
        ),
        (same (length w.lines), λ fits. known.1),
      )

-- ---- what does no work

-- lines that end nothing
abbrev pub IsMild : Effect → Type 0
IsMild (Say b) = NoDone b × (goes b ≡ true)
IsMild e = ⊥

mild_lines : (k l : ℕ) (outs : List Effect) → AllByRecursion IsMild outs → AllByRecursion NoDone (bodies k l outs)
mild_lines k l [] all = tt
mild_lines k l (Say b ∷ es) all = (all.0.0, mild_lines k l es all.1)
mild_lines k l (Send to m ∷ es) all = absurd all.0
mild_lines k l (Do w ∷ es) all = absurd all.0

mild_goes : (k l : ℕ) (outs : List Effect) → AllByRecursion IsMild outs → list_all goes (bodies k l outs) ≡ true
mild_goes k l [] all = refl
mild_goes k l (Say b ∷ es) all = λ i. all.0.1 i && mild_goes k l es all.1 i
mild_goes k l (Send to m ∷ es) all = absurd all.0
mild_goes k l (Do w ∷ es) all = absurd all.0

mild_cut : (c : ℕ) (how : Stop) (es : List Effect) (d : Disk) → AllByRecursion IsMild es →
    ((cut c how es d).disk ≡ d) × AllByRecursion IsMild (cut c how es d).outs
mild_cut c how [] d all = (refl, tt)
mild_cut zero how (Say b ∷ es) d all = let r = mild_cut zero how es d all.1 in (r.0, (all.0, r.1))
mild_cut (suc c) how (Say b ∷ es) d all = let r = mild_cut (suc c) how es d all.1 in (r.0, (all.0, r.1))
mild_cut c how (Send to m ∷ es) d all = absurd all.0
mild_cut c how (Do w ∷ es) d all = absurd all.0

mild_halt : (k : ℕ) (es : List Effect) → AllByRecursion IsMild es → AllByRecursion IsMild (es ++ Say (body.Halted k) ∷ [])
mild_halt k [] all = ((tt, refl), tt)
mild_halt k (e ∷ es) all = (all.0, mild_halt k es all.1)

module _ (A : List AskedOf) (hd : Header) (w : World) (k : ℕ) (n : Node) (there : at_place k w.nodes ≡ Some n)
    (known : AllKnown A hd w.nodes w.lines) where
  mild_node : (a : Node) (outs : List Effect) → a.disk ≡ n.disk → AllByRecursion IsMild outs →
      AllPend A (set_place k a w.nodes) (w.lines ++ numbered w.event (bodies k (length w.frames) outs))
  mild_node a outs disk all j m u at held = pends_more A w.lines (numbered w.event (bodies k (length w.frames) outs)) j u
      (all_keep A w.event (bodies k (length w.frames) outs) j u (mild_lines k (length w.frames) outs all))
      (by (j == k) refl (seen_set k j a n m w.nodes there at))
    where
      by : (b : Bool) → (j == k) ≡ b → cond b (Some a) (at_place j w.nodes) ≡ Some m → Pends A w.lines j u
      by true e is = let same : a ≡ m = (let z : Some a ≡ Some m = is in cc z) in
          known.0 j n u (ap (λ i. at_place i w.nodes) (eqb-true j k e) ∙ there)
          (ap (λ d. is_prepared u d.store) (sym disk) ∙ (ap (λ (x : Node). is_prepared u (let d = x.disk in d.store)) same ∙ held))
      by false e is = known.0 j m u is held

  mild_known : (a : Node) (outs : List Effect) → a.disk ≡ n.disk → AllByRecursion IsMild outs →
      AllKnown A hd (set_place k a w.nodes) (w.lines ++ numbered w.event (bodies k (length w.frames) outs))
  mild_known a outs disk all = (
    mild_node a outs disk all,
    mute_more A hd w.lines w.event (bodies k (length w.frames) outs) (mild_goes k (length w.frames) outs all) known.1,
  )

  -- a step without works
  pub mild_pends : (s : Step) → (let a = s.after in a.disk) ≡ n.disk → AllByRecursion IsMild s.outs → AllByRecursion IsMild s.halting →
      (o : Option Arm) → AllKnown A hd (step_with k n s w o).nodes (step_with k n s w o).lines
  mild_pends s disk outs halting None = mild_known s.after s.outs disk outs
  mild_pends s disk outs halting (Some a) = by (nat_lt (count_works s.halting) a.works)
    where
      by : (b : Bool) → (let v = if b then done_step k s (armed k (record a { works = a.works - count_works s.halting }) w) else
          halted_at k n (cut (a.works - 1) a.how s.halting n.disk) (disarmed k w) in AllKnown A hd v.nodes v.lines)
      by true = mild_known s.after s.outs disk outs
      by false = let q = cut (a.works - 1) a.how s.halting n.disk in let r = mild_cut (a.works - 1) a.how s.halting n.disk halting in
          mild_known (record n { disk = q.disk; live = None }) (halted_outs k q) r.0 (mild_halt k q.outs r.1)

-- ---- frames and events behind a step

pub with_told : (k : ℕ) (n : Node) (s : Step) (w : World) (o : Option Arm) → Told w.frames w.lines →
    Told (step_with k n s w o).frames (step_with k n s w o).lines
with_told k n s w None h = told_put k w.event s.outs w.frames w.lines h
with_told k n s w (Some a) h = by (nat_lt (count_works s.halting) a.works)
  where
    by : (b : Bool) → (let v = if b then done_step k s (armed k (record a { works = a.works - count_works s.halting }) w) else
        halted_at k n (cut (a.works - 1) a.how s.halting n.disk) (disarmed k w) in Told v.frames v.lines)
    by true = told_put k w.event s.outs w.frames w.lines h
    by false = told_put k w.event (halted_outs k (cut (a.works - 1) a.how s.halting n.disk)) w.frames w.lines h

pub with_event : (k : ℕ) (n : Node) (s : Step) (w : World) (o : Option Arm) → (step_with k n s w o).event ≡ w.event
with_event k n s w None = refl
with_event k n s w (Some a) = by (nat_lt (count_works s.halting) a.works)
  where
    by : (b : Bool) → (let v = if b then done_step k s (armed k (record a { works = a.works - count_works s.halting }) w) else
        halted_at k n (cut (a.works - 1) a.how s.halting n.disk) (disarmed k w) in v.event) ≡ w.event
    by true = refl
    by false = refl
