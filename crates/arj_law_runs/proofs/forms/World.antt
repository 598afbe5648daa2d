-- What the world says of frames, stops, refusals and itself is in form, whatever stops fall.
use Rattle.arj_law_parts.proofs.Words
use Words.{◌≡◌, ◌≢◌, ◌∙◌, ◌≤◌, ◌<◌, ◌+◌, ◌-◌, ◌==◌, ◌||◌, ◌&&◌, ◌++◌, ℕ, zero, suc, Bool, true, false, cond, not, List, [], ◌∷◌, length}
use Words.{take}
use Words.{Option, Some, None, IfSome, refl, sym, ap, subst, arith, ⊤, nat_le, nat_lt, nat_tests, eqb-true, leb-true, and_parts, list_all}
use Words.{append_assoc, length-append, slice_get, slice_set, AllByRecursion, Body, Event, Header, Line, Message, frame_kind}
use Words.{Disk, Do, Effect, Say, Send, Stop, worked, at_number, Input, Node, Step, Parts, first_reason, refusal, step, at_place, set_place}
use Words.{Branch, Coord, branch_named, refused_by, Arm, Frame, Giving, World, armed, as_delivered, as_lost, begins, begins_any, bodies}
use Words.{change_frame, count_works, counted, cut, deliver, deliver_frame, disarmed, done_step, frame_number, frames_with, giving}
use Words.{halted_at, halted_outs, happens, is_quiet, is_up_at, junk_fits, labels_unless, lacks_labels, limited, lose_frame, lowest}
use Words.{most_frames, new_frame, no_labels, node_numbers, node_of, numbered, put, quiesce, reasons, refused_at, run_event, run_unless}
use Words.{sends, set_node, settle, settle_for, show_all, show_up, step_node, step_with, steps, tick_all, tick_up, world_from}
use Words.{Move, Post, all_moved, moved, world_by, most_events, place_other, IsInForm}
use Words.body
use Words.event
use Words.frame
use Words.frame_no
use Words.input
use Words.message
use Rattle.arj_law_runs.proofs.Terms
use Terms.{Asked, says, In, IsSent, Holds, moves_asked, place_same, Run}
use Terms.which
use Rattle.arj_journal.specs.LineForm.{BodyInForm, NodeInForm, SenderInForm, is_junk}
use Rattle.arj_promise.specs.Runs.{HeaderFits}
use Rattle.arj_journal.specs.declared.limits.TheConstants.{NODES, REFUSALS}
use Rattle.arj_law_parts.proofs.moves.Reasons.{first_not, not_not}
use Rattle.arj_law_parts.proofs.steps.{StepLines.OfInput, StepLines.step_says, Whole.step_number}
use Rattle.arj_law_parts.specs.steps.Spoken.{SaidIn, is_of_parts}
use Rattle.arj_law_runs.proofs.addresses.{Lists.all_append, Lists.all_placed, Runs.first_within, Runs.kept, Runs.within_of}
use Rattle.arj_law_runs.specs.addresses.Addresses.{AreAddressed, IsNode, PostOf}
use Rattle.arj_law_runs.specs.forms.World.{IsSaidInForm, RunsSayInForm}
use Rattle.arj_protocol.specs.Step.{abort_reasons, begin_reasons, call_reasons, commit_reasons, giveup_reasons, include_reasons}
use Rattle.arj_protocol.specs.Step.{is_about_action, refusal_at}
use Rattle.arj_protocol.specs.Words.{FrameKind}
use Rattle.arj_text.specs.Fields.{IsWithin, WordInForm}

-- ---- refusals

abbrev is_refusal : ℕ → Bool
is_refusal c = nat_le 1 c && nat_le c REFUSALS

abbrev AreRefusals : List (ℕ × Bool) → Type 0
AreRefusals rs = list_all (λ (r : ℕ × Bool). is_refusal r.0) rs ≡ true

first_is : (rs : List (ℕ × Bool)) (c : ℕ) → AreRefusals rs → first_reason rs ≡ Some c → is_refusal c ≡ true
first_is [] c all is = let no_way : ◌≡◌ {A = Option ℕ} None (Some c) = is in absurd (cc no_way)
first_is (r ∷ rs) c all is = by r.1 (first_is rs c parts.1) is
  where
    parts : (is_refusal r.0 ≡ true) × AreRefusals rs
    parts = and_parts (is_refusal r.0) (list_all (λ (q : ℕ × Bool). is_refusal q.0) rs) all

    by : (b : Bool) → (first_reason rs ≡ Some c → is_refusal c ≡ true) → cond b (Some r.0) (first_reason rs) ≡ Some c → is_refusal c ≡ true
    by true rest here = let same : ◌≡◌ {A = Option ℕ} (Some r.0) (Some c) = here in let one : r.0 ≡ c = cc same in
        subst (λ k. is_refusal k ≡ true) one parts.0
    by false rest later = rest later

refused_is : (rs : Branch → Coord → List (ℕ × Bool)) → ((b : Branch) (c : Coord) → AreRefusals (rs b c)) → (t : Coord)
    (o : Option Branch) (c : ℕ) → refused_by rs t o ≡ Some c → is_refusal c ≡ true
refused_is rs all t None c is = let same : ◌≡◌ {A = Option ℕ} (Some 6) (Some c) = is in let one : 6 ≡ c = cc same in
    subst (λ k. is_refusal k ≡ true) one refl
refused_is rs all t (Some b) c is = first_is (rs b t) c (all b t) is

none_is : (c : ℕ) → ◌≡◌ {A = Option ℕ} None (Some c) → is_refusal c ≡ true
none_is c no_way = absurd (cc no_way)

up_refusal : (hd : Header) (i : Input) (t : Coord) (c : ℕ) → input.refusal_up hd i t ≡ Some c → is_refusal c ≡ true
up_refusal hd (input.Begin l k None) t c is = none_is c is
up_refusal hd (input.Begin l k (Some p)) t c is = refused_is (begin_reasons k) (λ b d. refl) t (branch_named p t) c is
up_refusal hd (input.Call l x o) t c is = refused_is (call_reasons hd x o) (λ b d. refl) t (branch_named l t) c is
up_refusal hd (input.Include l x s) t c is = refused_is (include_reasons hd x) (λ b d. refl) t (branch_named l t) c is
up_refusal hd (input.Commit l) t c is = refused_is commit_reasons (λ b d. refl) t (branch_named l t) c is
up_refusal hd (input.Abort l) t c is = refused_is abort_reasons (λ b d. refl) t (branch_named l t) c is
up_refusal hd (input.GiveUp l) t c is = refused_is giveup_reasons (λ b d. refl) t (branch_named l t) c is
up_refusal hd (input.Frame k from m) t c is = none_is c is
up_refusal hd input.Tick t c is = none_is c is
up_refusal hd input.Restart t c is = none_is c is
up_refusal hd input.Crash t c is = none_is c is
up_refusal hd (input.Show x) t c is = none_is c is

node_refusal : (hd : Header) (i : Input) (n : Node) (c : ℕ) → refusal hd i n ≡ Some c → is_refusal c ≡ true
node_refusal hd i n c is = by n.live is
  where
    down : (b : Bool) → cond b (Some 6) None ≡ Some c → is_refusal c ≡ true
    down true here = let same : ◌≡◌ {A = Option ℕ} (Some 6) (Some c) = here in let one : 6 ≡ c = cc same in
        subst (λ k. is_refusal k ≡ true) one refl
    down false here = none_is c here

    by : (o : Option Parts) → refusal_at hd i o ≡ Some c → is_refusal c ≡ true
    by None here = down (is_about_action i) here
    by (Some t) here = up_refusal hd i t.coord c here

world_refusal : (e : Event) (w : World) (c : ℕ) → first_reason (reasons e w) ≡ Some c → is_refusal c ≡ true
world_refusal (event.Begin l n) w c is = first_is (reasons (event.Begin l n) w) c refl is
world_refusal (event.Serial l n) w c is = first_is (reasons (event.Serial l n) w) c refl is
world_refusal (event.BeginIn l p) w c is = first_is (reasons (event.BeginIn l p) w) c refl is
world_refusal (event.Top l p) w c is = first_is (reasons (event.Top l p) w) c refl is
world_refusal (event.Call l x o) w c is = first_is (reasons (event.Call l x o) w) c refl is
world_refusal (event.Include l x n) w c is = first_is (reasons (event.Include l x n) w) c refl is
world_refusal (event.Commit l) w c is = first_is (reasons (event.Commit l) w) c refl is
world_refusal (event.Abort l) w c is = first_is (reasons (event.Abort l) w) c refl is
world_refusal (event.GiveUp l) w c is = first_is (reasons (event.GiveUp l) w) c refl is
world_refusal (event.Deliver k) w c is = first_is (reasons (event.Deliver k) w) c refl is
world_refusal (event.Lose k) w c is = first_is (reasons (event.Lose k) w) c refl is
world_refusal (event.Tick n) w c is = first_is (reasons (event.Tick n) w) c refl is
world_refusal event.Settle w c is = none_is c is
world_refusal event.Quiesce w c is = none_is c is
world_refusal (event.Crash n) w c is = first_is (reasons (event.Crash n) w) c refl is
world_refusal (event.Restart n) w c is = first_is (reasons (event.Restart n) w) c refl is
world_refusal (event.Stop n k how) w c is = first_is (reasons (event.Stop n k how) w) c refl is
world_refusal (event.Junk n bytes) w c is = first_is (reasons (event.Junk n bytes) w) c refl is
world_refusal (event.Show x) w c is = first_is (reasons (event.Show x) w) c refl is

-- ---- places

got_low : {A : Type 0} (k : ℕ) (xs : List A) (a : A) → slice_get xs k ≡ Some a → suc k ≤ length xs
got_low {A} k [] a is = let no_way : ◌≡◌ {A = Option A} None (Some a) = is in absurd (cc no_way)
got_low zero (x ∷ xs) a is = omega arith
got_low (suc k) (x ∷ xs) a is = let low = got_low k xs a is in omega (arith, low)

placed_low : {A : Type 0} (k : ℕ) (xs : List A) (a : A) → at_place k xs ≡ Some a → k ≤ length xs
placed_low {A} zero xs a is = let no_way : ◌≡◌ {A = Option A} None (Some a) = is in absurd (cc no_way)
placed_low (suc k) xs a is = got_low k xs a is

got_behind : {A : Type 0} (xs ys : List A) (a : A) → slice_get (xs ++ a ∷ ys) (length xs) ≡ Some a
got_behind [] ys a = refl
got_behind (x ∷ xs) ys a = got_behind xs ys a

got_more : {A : Type 0} (xs ys : List A) (k : ℕ) (a : A) → slice_get xs k ≡ Some a → slice_get (xs ++ ys) k ≡ Some a
got_more {A} [] ys k a is = let no_way : ◌≡◌ {A = Option A} None (Some a) = is in absurd (cc no_way)
got_more (x ∷ xs) ys zero a is = is
got_more (x ∷ xs) ys (suc k) a is = got_more xs ys k a is

placed_more : {A : Type 0} (xs ys : List A) (k : ℕ) (a : A) → at_place k xs ≡ Some a → at_place k (xs ++ ys) ≡ Some a
placed_more {A} xs ys zero a is = let no_way : ◌≡◌ {A = Option A} None (Some a) = is in absurd (cc no_way)
placed_more xs ys (suc k) a is = got_more xs ys k a is

module _ (hd : Header) where
  -- ---- lines and their frames

  -- the kind that the line of a frame says
  abbrev KindSo : ℕ → Option Message → FrameKind → Type 0
  KindSo from None what = (from ≡ 0) × (what ≡ frame.Junk)
  KindSo from (Some m) what = what ≡ frame_kind m

  -- a frame that was sent has its line
  record IsOf (fs : List Frame) (k from to : ℕ) (what : FrameKind) : Type 0 where
    frame : Frame
    there : at_place k fs ≡ Some frame
    sender : frame.from ≡ from
    receiver : frame.to ≡ to
    kind : KindSo from frame.message what
    low : k ≤ most_frames

  abbrev BodySo : List Frame → Body → Type 0
  BodySo fs (body.Sent k from to what) = IsOf fs k from to what
  BodySo fs (body.Got k) = k ≤ most_frames
  BodySo fs (body.Void k) = k ≤ most_frames
  BodySo fs (body.Dropped k) = k ≤ most_frames
  BodySo fs (body.Halted n) = IsNode hd n
  BodySo fs (body.Armed n) = IsNode hd n
  BodySo fs (body.Refused c) = is_refusal c ≡ true
  BodySo fs (body.Bad n) = ⊥
  BodySo fs _ = ⊤

  abbrev LineSo : List Frame → Line → Type 0
  LineSo fs l = WordInForm l.event × BodySo fs l.body

  -- the frames are there too, but for what became of them
  abbrev Extends : List Frame → List Frame → Type 0
  Extends fs gs = (k : ℕ) (f : Frame) → at_place k fs ≡ Some f →
      (g : Frame) × (at_place k gs ≡ Some g) × (g.from ≡ f.from) × (g.to ≡ f.to) × (g.message ≡ f.message)

  body_later : (fs gs : List Frame) → Extends fs gs → (b : Body) → BodySo fs b → BodySo gs b
  body_later fs gs ex (body.Sent k from to what) o =
      let f = o.frame in
      let e = ex k f o.there in
      record {
        frame = e.0;
        there = e.1;
        sender = e.2 ∙ o.sender;
        receiver = e.3 ∙ o.receiver;
        kind = subst (λ m. KindSo from m what) (sym e.4) o.kind;
        low = o.low;
      }
  body_later fs gs ex (body.Got k) its = its
  body_later fs gs ex (body.Void k) its = its
  body_later fs gs ex (body.Dropped k) its = its
  body_later fs gs ex (body.Halted n) its = its
  body_later fs gs ex (body.Armed n) its = its
  body_later fs gs ex (body.Refused c) its = its
  body_later fs gs ex (body.Bad n) its = its
  body_later fs gs ex b its = tt

  lines_later : (fs gs : List Frame) → Extends fs gs → (ls : List Line) → AllByRecursion (LineSo fs) ls → AllByRecursion (LineSo gs) ls
  lines_later fs gs ex [] all = tt
  lines_later fs gs ex (l ∷ ls) all = ((all.0.0, body_later fs gs ex l.body all.0.1), lines_later fs gs ex ls all.1)

  more_extends : (fs gs : List Frame) → Extends fs (fs ++ gs)
  more_extends fs gs k f is = (f, placed_more fs gs k f is, refl, refl, refl)

  -- ---- what a node says

  -- whatever was sent so far
  abbrev Plain : Body → Type 0
  Plain b = (fs : List Frame) → BodySo fs b

  parts_plain : (b : Body) → is_of_parts b ≡ true → Plain b
  parts_plain (body.Sent k from to what) is = absurd (cc is)
  parts_plain (body.Got k) is = absurd (cc is)
  parts_plain (body.Void k) is = absurd (cc is)
  parts_plain (body.Dropped k) is = absurd (cc is)
  parts_plain (body.Halted n) is = absurd (cc is)
  parts_plain (body.Armed n) is = absurd (cc is)
  parts_plain (body.Refused c) is = absurd (cc is)
  parts_plain (body.Bad n) is = absurd (cc is)
  parts_plain b is = λ fs. tt

  abbrev Said : List Effect → Type 0
  Said outs = AllByRecursion (SaidIn Plain) outs

  abbrev Bodies : List Frame → List Body → Type 0
  Bodies fs bs = AllByRecursion (BodySo fs) bs

  -- frames past the limit have no line
  late : (fs : List Frame) (k j : ℕ) (outs : List Effect) → most_frames ≤ j → Said outs → Bodies fs (bodies k j outs)
  late fs k j [] past said = tt
  late fs k j (Say b ∷ es) past said = (said.0 fs, late fs k j es past said.1)
  late fs k j (Do w ∷ es) past said = late fs k j es past said.1
  late fs k j (Send to m ∷ es) past said = by (nat_le (j + 1) most_frames) refl (late fs k (j + 1) es (omega (arith, past)) said.1)
    where
      by : (b : Bool) → nat_le (j + 1) most_frames ≡ b → Bodies fs (bodies k (j + 1) es) →
          Bodies fs (cond b (body.Sent (j + 1) k to (frame_kind m) ∷ []) [] ++ bodies k (j + 1) es)
      by true low rest = let le : j + 1 ≤ most_frames = leb-true (j + 1) most_frames low in absurd (omega (arith, le, past))
      by false low rest = rest

  -- each other one has a line that says it
  said_of : (k j : ℕ) (fs gs : List Frame) (outs : List Effect) → length fs ≡ j → gs ≡ fs ++ take (most_frames - j) (sends k outs) →
      Said outs → Bodies gs (bodies k j outs)
  said_of k j fs gs [] long is said = tt
  said_of k j fs gs (Say b ∷ es) long is said = (said.0 gs, said_of k j fs gs es long is said.1)
  said_of k j fs gs (Do w ∷ es) long is said = said_of k j fs gs es long is said.1
  said_of k j fs gs (Send to m ∷ es) long is said = by (nat_le (j + 1) most_frames) refl
      (λ longer more. said_of k (j + 1) (fs ++ new_frame k to (Some m) ∷ []) gs es longer more said.1)
    where
      f : Frame
      f = new_frame k to (Some m)

      by : (b : Bool) → nat_le (j + 1) most_frames ≡ b
          → (length (fs ++ f ∷ []) ≡ j + 1 → gs ≡ (fs ++ f ∷ []) ++ take (most_frames - (j + 1)) (sends k es) →
          Bodies gs (bodies k (j + 1) es))
          → Bodies gs (cond b (body.Sent (j + 1) k to (frame_kind m) ∷ []) [] ++ bodies k (j + 1) es)
      by true low rest =
          let le : j + 1 ≤ most_frames = leb-true (j + 1) most_frames low in
          let left : most_frames - j ≡ suc (most_frames - (j + 1)) = omega (arith, le) in
          let all : gs ≡ fs ++ f ∷ take (most_frames - (j + 1)) (sends k es) = is ∙ ap (λ c. fs ++ take c (f ∷ sends k es)) left in
          let next : j + 1 ≡ suc (length fs) = omega (arith, long) in (
            record {
              frame = f;
              there = ap (λ c. at_place c gs) next ∙ ap (λ xs. slice_get xs (length fs)) all
                  ∙ got_behind fs (take (most_frames - (j + 1)) (sends k es)) f;
              sender = refl;
              receiver = refl;
              kind = refl;
              low = le;
            },
            rest (length-append fs (f ∷ []) ∙ ap (λ c. c + 1) long)
                (all ∙ sym (append_assoc fs (f ∷ []) (take (most_frames - (j + 1)) (sends k es)))),
          )
      by false low rest = late gs k (j + 1) es (past low) said.1
        where
          past : nat_le (j + 1) most_frames ≡ false → most_frames ≤ j + 1
          past low = grind (arith, nat_tests, low)

  number_all : (e : ℕ) (fs : List Frame) (bs : List Body) → WordInForm e → Bodies fs bs → AllByRecursion (LineSo fs) (numbered e bs)
  number_all e fs [] word all = tt
  number_all e fs (b ∷ bs) word all = ((word, all.0), number_all e fs bs word all.1)

  -- ---- a world

  record Speaks (top : ℕ) (w : World) : Type 0 where
    header : w.header ≡ hd
    few : length w.frames ≤ most_frames
    event : w.event ≤ top
    nodes : (k : ℕ) (n : Node) → at_place k w.nodes ≡ Some n → IsNode hd k × (n.number ≡ k)
    lines : AllByRecursion (LineSo w.frames) w.lines

  module _ (top : ℕ) (small : top ≤ most_events) where
    abbrev So : World → Type 0
    So w = Speaks top w

    word : (e : ℕ) → e ≤ top → WordInForm e
    word e low = below e (omega (arith, low, small))
      where
        below : (e : ℕ) → e < 4294967296 → WordInForm e
        below e less = less

    says_so : (b : Body) (w : World) → BodySo w.frames b → So w → So (says (b ∷ []) w)
    says_so b w own its = record {
      header = its.header;
      few = its.few;
      event = its.event;
      nodes = its.nodes;
      lines = all_append (LineSo w.frames) w.lines (numbered w.event (b ∷ [])) its.lines ((word w.event its.event, own), tt);
    }

    take_few : {A : Type 0} (k : ℕ) (xs : List A) → length (take k xs) ≤ k
    take_few zero xs = omega arith
    take_few (suc k) [] = omega arith
    take_few (suc k) (x ∷ xs) = let few = take_few k xs in omega (arith, few)

    put_so : (k : ℕ) (outs : List Effect) (w : World) → Said outs → So w → So (put k outs w)
    put_so k outs w said its =
        let new = take (most_frames - length w.frames) (sends k outs) in
        record {
          header = its.header;
          few = fits its.few (length-append w.frames new) (take_few (most_frames - length w.frames) (sends k outs));
          event = its.event;
          nodes = its.nodes;
          lines = all_append (LineSo (w.frames ++ new)) w.lines (numbered w.event (bodies k (length w.frames) outs))
              (lines_later w.frames (w.frames ++ new) (more_extends w.frames new) w.lines its.lines)
              (number_all w.event (w.frames ++ new) (bodies k (length w.frames) outs) (word w.event its.event)
              (said_of k (length w.frames) w.frames (w.frames ++ new) outs refl refl said));
        }
      where
        fits : {a b c : ℕ} → a ≤ most_frames → c ≡ a + b → b ≤ most_frames - a → c ≤ most_frames
        fits one two three = omega (arith, one, two, three)

    node_so : (k : ℕ) (a : Node) (n : Node) (w : World) → at_place k w.nodes ≡ Some n → a.number ≡ k → So w → So (set_node k a w)
    node_so k a n w there is its = record {
      header = its.header;
      few = its.few;
      event = its.event;
      nodes = λ j m at. by j m (j == k) refl at;
      lines = its.lines;
    }
      where
        by : (j : ℕ) (m : Node) (b : Bool) → (j == k) ≡ b → at_place j (set_place k a w.nodes) ≡ Some m → IsNode hd j × (m.number ≡ j)
        by j m true same at =
            let one : j ≡ k = eqb-true j k same in
            let found : ◌≡◌ {A = Option Node} (Some a) (Some m) = sym (ap (λ i. at_place i (set_place k a w.nodes)) one
            ∙ place_same k a n w.nodes there) ∙ at in
            let it : a ≡ m = cc found in
            (subst (IsNode hd) (sym one) (its.nodes k n there).0, ap (λ (x : Node). x.number) (sym it) ∙ is ∙ sym one)
        by j m false other at = its.nodes j m (sym (place_other k j a w.nodes (apart other)) ∙ at)
          where
            apart : (j == k) ≡ false → j ≢ k
            apart e = grind (arith, nat_tests)

    arms_so : (w v : World) → v.header ≡ w.header → v.frames ≡ w.frames → v.event ≡ w.event → v.nodes ≡ w.nodes → v.lines ≡ w.lines →
        So w → So v
    arms_so w v header frames event nodes lines its = record {
      header = header ∙ its.header;
      few = subst (λ fs. length fs ≤ most_frames) (sym frames) its.few;
      event = subst (λ c. c ≤ top) (sym event) its.event;
      nodes = λ k n at. its.nodes k n (sym (ap (λ ns. at_place k ns) nodes) ∙ at);
      lines = subst (λ ls. AllByRecursion (LineSo v.frames) ls) (sym lines) (subst (λ fs. AllByRecursion (LineSo fs) w.lines) (sym frames)
          its.lines);
    }

    -- ---- a step of a node in its world

    abbrev StepSo : Step → Type 0
    StepSo s = Said s.outs × Said s.halting

    cut_said : (k : ℕ) (how : Stop) (outs : List Effect) (d : Disk) → Said outs → Said (cut k how outs d).outs
    cut_said k how [] d said = tt
    cut_said zero how (Do w ∷ es) d said = tt
    cut_said (suc k) how (Do w ∷ es) d said = (tt, cut_said k how es (worked w d) said.1)
    cut_said k how (Say b ∷ es) d said = (said.0, cut_said k how es d said.1)
    cut_said k how (Send to m ∷ es) d said = (tt, cut_said k how es d said.1)

    module _ (k : ℕ) (n : Node) (s : Step) (so : StepSo s) (number : s.after.number ≡ k) where
      done_so : (w : World) → at_place k w.nodes ≡ Some n → So w → So (done_step k s w)
      done_so w there its = put_so k s.outs (set_node k s.after w) so.0 (node_so k s.after n w there number its)

      halted_so : (c : ℕ) (how : Stop) (w : World) → at_place k w.nodes ≡ Some n → So w →
          So (halted_at k n (cut c how s.halting n.disk) w)
      halted_so c how w there its =
          let q = cut c how s.halting n.disk in
          let stopped : Node = record n { disk = q.disk; live = None } in
          let here = its.nodes k n there in
          put_so k (halted_outs k q) (set_node k stopped w)
          (all_append (SaidIn Plain) q.outs (Say (body.Halted k) ∷ []) (cut_said c how s.halting n.disk so.1) ((λ fs. here.0), tt))
          (node_so k stopped n w there here.1 its)

      with_so : (w : World) (o : Option Arm) → at_place k w.nodes ≡ Some n → So w → So (step_with k n s w o)
      with_so w None there its = done_so w there its
      with_so w (Some a) there its = by (nat_lt (count_works s.halting) a.works)
        where
          by : (b : Bool) → So (cond b (done_step k s (armed k (record a { works = a.works - count_works s.halting }) w))
              (halted_at k n (cut (a.works - 1) a.how s.halting n.disk) (disarmed k w)))
          by true = let v = armed k (record a { works = a.works - count_works s.halting }) w in
              done_so v there (arms_so w v refl refl refl refl refl its)
          by false = let v = disarmed k w in halted_so (a.works - 1) a.how v there (arms_so w v refl refl refl refl refl its)

    -- of a frame its number is low
    abbrev InputSo : Input → Type 0
    InputSo (input.Frame k from m) = k ≤ most_frames
    InputSo i = ⊤

    of_input : (n : Node) (i : Input) → InputSo i → IsNode hd n.number → OfInput Plain parts_plain n i
    of_input n (input.Frame k from m) low node = ((λ fs. low), (λ fs. low))
    of_input n input.Crash low node = λ fs. node
    of_input n input.Tick low node = tt
    of_input n input.Restart low node = tt
    of_input n (input.Show x) low node = tt
    of_input n (input.Begin l k p) low node = tt
    of_input n (input.Call l x o) low node = tt
    of_input n (input.Include l x s) low node = tt
    of_input n (input.Commit l) low node = tt
    of_input n (input.Abort l) low node = tt
    of_input n (input.GiveUp l) low node = tt

    stepped : (k : ℕ) (i : Input) (w : World) (o : Option Node) → at_place k w.nodes ≡ o → InputSo i → So w → So (step_node k i w o)
    stepped k i w None there low its = its
    stepped k i w (Some n) there low its =
        let here = its.nodes k n there in
        with_so k n (step w.header n i) (step_says Plain parts_plain w.header n i (of_input n i low (subst (IsNode hd) (sym here.1) here.0))
        (λ c is fs. node_refusal w.header i n c is)) (step_number w.header n i ∙ here.1) w (at_number k w.arms) there its

    steps_so : (k : ℕ) (i : Input) (w : World) → InputSo i → So w → So (steps k i w)
    steps_so k i w low its = stepped k i w (at_place k w.nodes) refl low its

    -- ---- frames

    marked : (k : ℕ) (f g : Frame) (fs : List Frame) → at_place k fs ≡ Some f → g.from ≡ f.from → g.to ≡ f.to → g.message ≡ f.message →
        Extends fs (set_place k g fs)
    marked k f g fs there from to message j x at = by (j == k) refl
      where
        by : (b : Bool) → (j == k) ≡ b →
            (y : Frame) × (at_place j (set_place k g fs) ≡ Some y) × (y.from ≡ x.from) × (y.to ≡ x.to) × (y.message ≡ x.message)
        by true same =
            let one : j ≡ k = eqb-true j k same in
            let both : ◌≡◌ {A = Option Frame} (Some f) (Some x) = sym there ∙ (sym (ap (λ i. at_place i fs) one) ∙ at) in
            let it : f ≡ x = cc both in (
              g,
              ap (λ i. at_place i (set_place k g fs)) one ∙ place_same k g f fs there,
              from ∙ ap (λ (z : Frame). z.from) it,
              to ∙ ap (λ (z : Frame). z.to) it,
              message ∙ ap (λ (z : Frame). z.message) it,
            )
        by false other = (x, place_other k j g fs (apart other) ∙ at, refl, refl, refl)
          where
            apart : (j == k) ≡ false → j ≢ k
            apart e = grind (arith, nat_tests)

    set_long : {A : Type 0} (xs : List A) (k : ℕ) (a : A) → length (slice_set xs k a) ≡ length xs
    set_long [] k a = refl
    set_long (x ∷ xs) zero a = refl
    set_long (x ∷ xs) (suc k) a = ap suc (set_long xs k a)

    place_long : {A : Type 0} (k : ℕ) (a : A) (xs : List A) → length (set_place k a xs) ≡ length xs
    place_long zero a xs = refl
    place_long (suc k) a xs = set_long xs k a

    mark_so : (k : ℕ) (mark : Frame → Frame) (f : Frame) (w : World) → at_place k w.frames ≡ Some f → (mark f).from ≡ f.from →
        (mark f).to ≡ f.to → (mark f).message ≡ f.message → So w → So (change_frame k mark f w)
    mark_so k mark f w there from to message its = record {
      header = its.header;
      few = subst (λ c. c ≤ most_frames) (sym (place_long k (mark f) w.frames)) its.few;
      event = its.event;
      nodes = its.nodes;
      lines = lines_later w.frames (set_place k (mark f) w.frames) (marked k f (mark f) w.frames there from to message) w.lines its.lines;
    }

    low_frame : (k : ℕ) (f : Frame) (w : World) → at_place k w.frames ≡ Some f → So w → k ≤ most_frames
    low_frame k f w there its = let low = placed_low k w.frames f there in let few = its.few in omega (arith, low, few)

    deliver_so : (k : ℕ) (w : World) → So w → So (deliver k w)
    deliver_so k w its = by (at_place k w.frames) refl
      where
        by : (o : Option Frame) → at_place k w.frames ≡ o → So (deliver_frame k w o)
        by None there = its
        by (Some f) there = steps_so f.to (input.Frame k f.from f.message) (change_frame k as_delivered f w) (low_frame k f w there its)
            (mark_so k as_delivered f w there refl refl refl its)

    lose_so : (k : ℕ) (w : World) (o : Option Frame) → at_place k w.frames ≡ o → So w → So (lose_frame k w o)
    lose_so k w None there its = its
    lose_so k w (Some f) there its =
        says_so (body.Dropped k) (change_frame k as_lost f w) (low_frame k f w there its) (mark_so k as_lost f w there refl refl refl its)

    settle_so : (fuel : ℕ) (w : World) → So w → So (settle_for fuel w)
    settle_so zero w its = its
    settle_so (suc fuel) w its = by (lowest w) (λ k. settle_so fuel (deliver k w) (deliver_so k w its))
      where
        by : (o : Option ℕ) → ((k : ℕ) → So (settle_for fuel (deliver k w))) →
            So (elim o [ None ↦ w | Some k ↦ settle_for fuel (deliver k w) ])
        by None rest = its
        by (Some k) rest = rest k

    either_so : (b : Bool) (v u : World) → So v → So u → So (cond b v u)
    either_so true v u one other = one
    either_so false v u one other = other

    ticks_so : (ns : List ℕ) (w : World) → So w → So (tick_all ns w)
    ticks_so [] w its = its
    ticks_so (n ∷ ns) w its =
        ticks_so ns (tick_up n w) (either_so (w.full || not (is_up_at n w)) w (steps n input.Tick w) its (steps_so n input.Tick w tt its))

    quiesce_so : (w : World) → So w → So (quiesce w)
    quiesce_so w its =
        let a = settle w in
        let b = tick_all (node_numbers w) a in
        let c = settle b in
        let all : So c = settle_so most_frames b (ticks_so (node_numbers w) a (settle_so most_frames w its)) in
        either_so c.full c (says (body.Quiet (is_quiet c) ∷ []) c) all (says_so (body.Quiet (is_quiet c)) c tt all)

    shows_so : (x : ℕ) (ns : List ℕ) (w : World) → So w → So (show_all x ns w)
    shows_so x [] w its = its
    shows_so x (n ∷ ns) w its =
        shows_so x ns (show_up x n w) (either_so (is_up_at n w) (steps n (input.Show x) w) w (steps_so n (input.Show x) w tt its) its)

    junk_so : (n : ℕ) (w : World) (b : Bool) → nat_lt (length w.frames) most_frames ≡ b → So w → So (junk_fits n w b)
    junk_so n w true less its =
        let f = new_frame 0 n None in
        let v = record w { frames = w.frames ++ f ∷ [] } in
        let low : length w.frames + 1 ≤ most_frames = grind (arith, nat_tests, less) in
        let next : length w.frames + 1 ≡ suc (length w.frames) = omega arith in
        says_so (body.Sent (length w.frames + 1) 0 n frame.Junk) v (record {
          frame = f;
          there = ap (λ c. at_place c (w.frames ++ f ∷ [])) next ∙ got_behind w.frames [] f;
          sender = refl;
          receiver = refl;
          kind = (refl, refl);
          low = low;
        }) (record {
          header = its.header;
          few = subst (λ c. c ≤ most_frames) (sym (length-append w.frames (f ∷ []))) low;
          event = its.event;
          nodes = its.nodes;
          lines = lines_later w.frames (w.frames ++ f ∷ []) (more_extends w.frames (f ∷ [])) w.lines its.lines;
        })
    junk_so n w false less its = arms_so w (junk_fits n w false) refl refl refl refl refl its

    begins_so : (g : Giving) (w : World) → So w → So (begins g w)
    begins_so g w its = by (refused_at (input.Begin g.label g.kind g.parent) w (at_place g.node w.nodes))
      where
        by : (r : Option ℕ) → So (steps g.node (input.Begin g.label g.kind g.parent) (labels_unless g w r))
        by None = steps_so g.node (input.Begin g.label g.kind g.parent) (labels_unless g w None) tt
            (arms_so w (labels_unless g w None) refl refl refl refl refl its)
        by (Some c) = steps_so g.node (input.Begin g.label g.kind g.parent) w tt its

    any_so : (e : Event) (w : World) (o : Option Giving) → So w → So (begins_any e w o)
    any_so e w None its = its
    any_so e w (Some g) its = begins_so g w its

    -- ---- events

    happens_so : (e : Event) (a : Arm) (w : World) → first_reason (reasons e w) ≡ None → So w → So (happens e a w)
    happens_so (event.Begin l n) a w free its = any_so (event.Begin l n) w (giving (event.Begin l n) w) its
    happens_so (event.Serial l n) a w free its = any_so (event.Serial l n) w (giving (event.Serial l n) w) its
    happens_so (event.BeginIn l p) a w free its = any_so (event.BeginIn l p) w (giving (event.BeginIn l p) w) its
    happens_so (event.Top l p) a w free its = any_so (event.Top l p) w (giving (event.Top l p) w) its
    happens_so (event.Call l x o) a w free its = steps_so (node_of l w) (input.Call l x o) w tt its
    happens_so (event.Include l x n) a w free its = steps_so (node_of l w) (input.Include l x n) w tt its
    happens_so (event.Commit l) a w free its = steps_so (node_of l w) (input.Commit l) w tt its
    happens_so (event.Abort l) a w free its = steps_so (node_of l w) (input.Abort l) w tt its
    happens_so (event.GiveUp l) a w free its = steps_so (node_of l w) (input.GiveUp l) w tt its
    happens_so (event.Deliver k) a w free its = deliver_so (frame_number k w) w its
    happens_so (event.Lose k) a w free its = lose_so (frame_number k w) w (at_place (frame_number k w) w.frames) refl its
    happens_so (event.Tick n) a w free its = steps_so n input.Tick w tt its
    happens_so event.Settle a w free its = settle_so most_frames w its
    happens_so event.Quiesce a w free its = quiesce_so w its
    happens_so (event.Crash n) a w free its = steps_so n input.Crash w tt its
    happens_so (event.Restart n) a w free its = steps_so n input.Restart w tt its
    happens_so (event.Stop n c how) a w free its =
        let first = first_not 1 _ [] free in
        says_so (body.Armed n) (armed n a w) (subst (λ (h : Header). (nat_le 1 n && nat_le n h.nodes) ≡ true) its.header (not_not _ first.0))
        (arms_so w (armed n a w) refl refl refl refl refl its)
    happens_so (event.Junk n bytes) a w free its = junk_so n w (nat_lt (length w.frames) most_frames) refl its
    happens_so (event.Show x) a w free its = shows_so x (node_numbers w) w its

    limited_so : (w : World) → So w → So (limited w)
    limited_so w its = either_so w.full (says (body.Limit which.Frames ∷ []) (record w { over = true })) w
        (says_so (body.Limit which.Frames) (record w {
          over =
              true;
        }) tt (arms_so w (record w { over = true }) refl refl refl refl refl its)) its

  -- the event's number
  counted_so : (top : ℕ) (w : World) → Speaks top w → Speaks (top + 1) (counted w)
  counted_so top w its =
      record { header = its.header; few = its.few; event = more its.event; nodes = its.nodes; lines = its.lines }
    where
      more : {a b : ℕ} → a ≤ b → a + 1 ≤ b + 1
      more le = omega (arith, le)

  later_so : (top : ℕ) (w : World) → Speaks top w → Speaks (top + 1) w
  later_so top w its = record { header = its.header; few = its.few; event = more its.event; nodes = its.nodes; lines = its.lines }
    where
      more : {a b : ℕ} → a ≤ b → a ≤ b + 1
      more le = omega (arith, le)

  event_so : (top : ℕ) → top + 1 ≤ most_events → (e : Asked) (w : World) → Speaks top w → Speaks (top + 1) (run_event e w)
  event_so top small e w its = over w.over
    where
      lacks : first_reason (reasons e.event w) ≡ None → (b : Bool) →
          Speaks (top + 1) (cond b (no_labels w) (limited (happens e.event e.arm (counted w))))
      lacks free true = says_so (top + 1) small (body.Limit which.Labels) (record w { over = true }) tt
          (arms_so (top + 1) small w (record w { over = true }) refl refl refl refl refl (later_so top w its))
      lacks free false = limited_so (top + 1) small (happens e.event e.arm (counted w))
          (happens_so (top + 1) small e.event e.arm (counted w) (free_then e.event free) (counted_so top w its))
        where
          free_then : (x : Event) → first_reason (reasons x w) ≡ None → first_reason (reasons x (counted w)) ≡ None
          free_then (event.Begin l n) is = is
          free_then (event.Serial l n) is = is
          free_then (event.BeginIn l p) is = is
          free_then (event.Top l p) is = is
          free_then (event.Call l x o) is = is
          free_then (event.Include l x n) is = is
          free_then (event.Commit l) is = is
          free_then (event.Abort l) is = is
          free_then (event.GiveUp l) is = is
          free_then (event.Deliver (frame_no.Number k)) is = is
          free_then (event.Deliver frame_no.Last) is = is
          free_then (event.Lose (frame_no.Number k)) is = is
          free_then (event.Lose frame_no.Last) is = is
          free_then (event.Tick n) is = is
          free_then event.Settle is = is
          free_then event.Quiesce is = is
          free_then (event.Crash n) is = is
          free_then (event.Restart n) is = is
          free_then (event.Stop n c how) is = is
          free_then (event.Junk n bytes) is = is
          free_then (event.Show x) is = is

      refused : (r : Option ℕ) → first_reason (reasons e.event w) ≡ r → Speaks (top + 1) (run_unless e.event e.arm w r)
      refused (Some c) is =
          says_so (top + 1) small (body.Refused c) (counted w) (world_refusal e.event w c is) (counted_so top w its)
      refused None is = lacks is (lacks_labels (giving e.event w) w)

      over : (b : Bool) → Speaks (top + 1) (cond b w (run_unless e.event e.arm w (first_reason (reasons e.event w))))
      over true = later_so top w its
      over false = refused (first_reason (reasons e.event w)) refl

  same_but_arms : (top : ℕ) (arms : List (ℕ × Arm)) (w : World) → Speaks top w → Speaks top (record w { arms = arms })
  same_but_arms top arms w its =
      record { header = its.header; few = its.few; event = its.event; nodes = its.nodes; lines = its.lines }

  moves_so : (top : ℕ) (ms : List Move) (w : World) → top + length ms ≤ most_events → Speaks top w →
      (end : ℕ) × Speaks end (all_moved ms w)
  moves_so top [] w few its = (top, its)
  moves_so top (m ∷ ms) w few its =
      let v = record w { arms = m.falls } in
      moves_so (top + 1) ms (moved m w) (omega (arith, few)) (same_but_arms (top + 1) [] (run_event m.asked v)
      (event_so top (omega (arith, few)) m.asked v (same_but_arms top m.falls w its)))

  -- ---- lines in form

  module _ (form : HeaderFits hd) where
    pub node_form : (n : ℕ) → IsNode hd n → NodeInForm n
    node_form n is =
        let p = and_parts (nat_le 1 n) (nat_le n hd.nodes) is in
        let low = leb-true 1 n p.0 in
        let high = leb-true n hd.nodes p.1 in
        let most = form.nodes.1 in
        (low, omega (arith, high, most))

    frame_word : (k : ℕ) → k ≤ most_frames → WordInForm k
    frame_word k low = below k (omega (arith, low))
      where
        below : (k : ℕ) → k < 4294967296 → WordInForm k
        below k less = less

    no_junk : (m : Message) → is_junk (frame_kind m) ≡ false
    no_junk (message.Bind m) = refl
    no_junk (message.Bound m) = refl
    no_junk (message.Load m) = refl
    no_junk (message.Loaded m) = refl
    no_junk (message.Activate m) = refl
    no_junk (message.Activated m) = refl
    no_junk (message.RecordMsg m) = refl
    no_junk (message.Recorded m) = refl
    no_junk (message.Invoke m) = refl
    no_junk (message.Invoked m) = refl
    no_junk (message.Vote m) = refl
    no_junk (message.Voted m) = refl
    no_junk (message.Prepare m) = refl
    no_junk (message.Prepared m) = refl
    no_junk (message.Confirm m) = refl
    no_junk (message.Confirmed m) = refl
    no_junk (message.Told m) = refl
    no_junk (message.Acked m) = refl
    no_junk (message.Query m) = refl
    no_junk (message.Hello m) = refl

    sender_form : (sent : List Post) → ((p : Post) → In p sent → PostOf (IsNode hd) p) → (f : Frame) (from : ℕ) (what : FrameKind) →
        f.from ≡ from → IsSent sent f → (o : Option Message) → f.message ≡ o → KindSo from o what → SenderInForm from what
    sender_form sent posts f from what same there None is kind = (
      (omega arith, subst (λ c. c ≤ NODES) (sym kind.0) (omega arith)),
      ap (λ c. c == 0) kind.0 ∙ sym (ap is_junk kind.1),
    )
    sender_form sent posts f from what same there (Some m) is kind =
        let p = posts (record { from = f.from; to = f.to; message = m })
        (subst (λ o. IfSome o (λ x. In (record { from = f.from; to = f.to; message = x }) sent)) is there) in
        let node = node_form from (subst (IsNode hd) same p.0) in
        ((omega arith, node.1), positive node.0 ∙ sym (ap is_junk kind ∙ no_junk m))
      where
        positive : 1 ≤ from → (from == 0) ≡ false
        positive low = grind (arith, nat_tests, low)

    refusal_form : (c : ℕ) → is_refusal c ≡ true → IsWithin 1 REFUSALS c
    refusal_form c is = let p = and_parts (nat_le 1 c) (nat_le c REFUSALS) is in (leb-true 1 c p.0, leb-true c REFUSALS p.1)

    module _ (w : World) (h : Holds hd (AreAddressed hd) w) where
      body_form : (b : Body) → BodySo w.frames b → is_of_parts b ≡ false → BodyInForm b
      body_form (body.Sent k from to what) o none =
          let f = o.frame in
          let to_node =
          all_placed (λ (g : Frame). (nat_le 1 g.to && nat_le g.to hd.nodes) ≡ true) k w.frames f (within_of hd form w h) o.there
          in
          let there = all_placed (IsSent h.sent) k w.frames f h.stands.frames o.there in (
            frame_word k o.low,
            sender_form h.sent (let all = h.holds in let so = all.1 in so.1) f from what o.sender there f.message refl o.kind,
            node_form to (subst (IsNode hd) o.receiver to_node),
          )
      body_form (body.Got k) low none = frame_word k low
      body_form (body.Void k) low none = frame_word k low
      body_form (body.Dropped k) low none = frame_word k low
      body_form (body.Halted n) node none = node_form n node
      body_form (body.Armed n) node none = node_form n node
      body_form (body.Refused c) is none = refusal_form c is
      body_form (body.Quiet b) so none = tt
      body_form (body.Limit l) so none = tt
      body_form (body.Bad n) so none = absurd so
      body_form (body.Began l k u p) so none = absurd (cc none)
      body_form (body.Ok l x o a) so none = absurd (cc none)
      body_form (body.Includes l x n) so none = absurd (cc none)
      body_form (body.Conflict l u m n) so none = absurd (cc none)
      body_form (body.Lost l n) so none = absurd (cc none)
      body_form (body.Changed l n d) so none = absurd (cc none)
      body_form (body.Committing l) so none = absurd (cc none)
      body_form (body.Committed l) so none = absurd (cc none)
      body_form (body.Ended l) so none = absurd (cc none)
      body_form (body.Aborted l c) so none = absurd (cc none)
      body_form (body.GaveUp l n) so none = absurd (cc none)
      body_form (body.Excluded l x n) so none = absurd (cc none)
      body_form (body.Granted n u o m) so none = absurd (cc none)
      body_form (body.Lowered n u o) so none = absurd (cc none)
      body_form (body.Bound x b n) so none = absurd (cc none)
      body_form (body.Active n x b) so none = absurd (cc none)
      body_form (body.Told n u e p) so none = absurd (cc none)
      body_form (body.Prepared n u r) so none = absurd (cc none)
      body_form (body.Done n u r e) so none = absurd (cc none)
      body_form (body.Up n i) so none = absurd (cc none)
      body_form (body.Recovered n u) so none = absurd (cc none)
      body_form (body.Entry x v servers stores) so none = absurd (cc none)
      body_form (body.Copy n x v u payload) so none = absurd (cc none)

      lines_form : (ls : List Line) → AllByRecursion (LineSo w.frames) ls → AllByRecursion IsSaidInForm ls
      lines_form [] all = tt
      lines_form (l ∷ ls) all = ((all.0.0, body_form l.body all.0.1), lines_form ls all.1)

-- as a run begins
first_speaks : (hd : Header) → HeaderFits hd → (r : Run hd) → Speaks hd 0 (world_from hd r.start)
first_speaks hd form r =
    let h = first_within hd form r.start r.formed in
    record {
      header = refl;
      few = omega arith;
      event = omega arith;
      nodes = λ k n there. let number = h.stands.numbers k n there in
          (subst (IsNode hd) number (let all = h.holds in let so = all.1 in (so.0 k n there).0), number);
      lines = tt;
    }

pub runs_say_in_form : RunsSayInForm
runs_say_in_form hd r form =
    let w = world_by hd r in
    let s = moves_so hd 0 r.moves (world_from hd r.start) (below form.few) (first_speaks hd form.header r) in
    lines_form hd form.header w (moves_asked hd (AreAddressed hd) (kept hd form.header) r) w.lines s.1.lines
  where
    below : {a : ℕ} → a ≤ most_events → 0 + a ≤ most_events
    below le = omega (arith, le)
