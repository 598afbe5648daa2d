-- The lines of a quiesce give nothing up, and so each of them that ends what an action waited for answers it.
use Rattle.arj_law_parts.proofs.Words
use Words.{◌≡◌, ◌⊎◌, ◌∙◌, ◌+◌, ◌-◌, ℕ, zero, suc, Bool, true, false, cond, List, [], ◌∷◌, ◌++◌, refl, sym, ap, subst, inl, inr, ⊎_elim}
use Words.{Option, Some, None, append-nil, append_assoc, length, ◌||◌, not, nat_le, nat_lt, AllByRecursion, list_all, and_parts, In}
use Words.{in_from, Body, Cause, Line, Disk, Do, Effect, Say, Send, Stop, worked, Input, Node, Step, first_reason, step, at_number}
use Words.{frame_kind, at_place, Arm, Cut, Frame, World, armed, as_delivered, bodies, change_frame, count_works, counted, cut, deliver}
use Words.{deliver_frame, disarmed, done_step, halted_at, halted_outs, is_quiet, is_up, is_up_at, limited, lowest}
use Words.{node_numbers, numbered, quiesce, quiet_line, reasons, run_event, run_unless, sent_line, settle, settle_for, step_node, step_with}
use Words.{steps, tick_all, tick_up, moved, world_by, HasAnswer, IsAnswerTo, IsPlainIn, is_plain, is_refusal, most_frames}
use Words.body
use Words.input
use Rattle.arj_law_runs.proofs.Terms
use Terms.{says, place_same, EndsWait, HasEnded, HasHalted, IsAborted}
use Terms.which
use Rattle.arj_law_runs.proofs.resting
use resting.{EndedRuns.runs_answer_or_wait}
use resting.Plain.{Good, frame_plain, says_plain, tick_plain}
use resting.Worlds.{frame_idle, steps_up, tick_idle}
use Rattle.arj_law_runs.specs.resting.Answered.{IsAnswered, IsGivenUp, QuiescesAnswerOrLeave, QuiescesGiveNothingUp}

-- ---- what effects say

-- a line of node n is plain, or says that it halted
abbrev IsFine : ℕ → Body → Type 0
IsFine n b = (is_plain b ≡ true) ⊎ (b ≡ body.Halted n)

abbrev SaysFine : ℕ → Effect → Type 0
SaysFine n (Say b) = IsFine n b
SaysFine n (Send to m) = Unit {0}
SaysFine n (Do w) = Unit {0}

fine_all : (n : ℕ) (outs : List Effect) → Good outs → AllByRecursion (SaysFine n) outs
fine_all n [] good = tt
fine_all n (Say b ∷ es) good = let p = and_parts (is_plain b) (list_all says_plain es) good in (inl p.0, fine_all n es p.1)
fine_all n (Send to m ∷ es) good = (tt, fine_all n es good)
fine_all n (Do w ∷ es) good = (tt, fine_all n es good)

both_fine : {A : Type 0} (P : A → Type 0) (xs ys : List A) → AllByRecursion P xs → AllByRecursion P ys → AllByRecursion P (xs ++ ys)
both_fine P [] ys all more = more
both_fine P (x ∷ xs) ys all more = (all.0, both_fine P xs ys all.1 more)

cut_fine : (n k : ℕ) (how : Stop) (es : List Effect) (d : Disk) → AllByRecursion (SaysFine n) es →
    AllByRecursion (SaysFine n) (cut k how es d).outs
cut_fine n k how [] d all = tt
cut_fine n zero how (Do w ∷ es) d all = tt
cut_fine n (suc k) how (Do w ∷ es) d all = (tt, cut_fine n k how es (worked w d) all.1)
cut_fine n k how (Say b ∷ es) d all = (all.0, cut_fine n k how es d all.1)
cut_fine n k how (Send to m ∷ es) d all = (tt, cut_fine n k how es d all.1)

bodies_fine : (n j : ℕ) (outs : List Effect) → AllByRecursion (SaysFine n) outs → AllByRecursion (IsFine n) (bodies n j outs)
bodies_fine n j [] all = tt
bodies_fine n j (Say b ∷ es) all = (all.0, bodies_fine n j es all.1)
bodies_fine n j (Do w ∷ es) all = bodies_fine n j es all.1
bodies_fine n j (Send to m ∷ es) all = both_fine (IsFine n) (sent_line (j + 1) n to (frame_kind m)) (bodies n (j + 1) es)
    (by (nat_le (j + 1) most_frames)) (bodies_fine n (j + 1) es all.1)
  where
    by : (b : Bool) → AllByRecursion (IsFine n) (cond b (body.Sent (j + 1) n to (frame_kind m) ∷ []) [])
    by true = (inl refl, tt)
    by false = tt

lines_plain : (n e : ℕ) (v : World) (bs : List Body) → AllByRecursion (IsFine n) bs →
    ((b : Body) → b ≡ body.Halted n → In b bs → is_up_at n v ≡ false) → AllByRecursion (IsPlainIn v) (numbered e bs)
lines_plain n e v [] all down = tt
lines_plain n e v (b ∷ bs) all down = (
  ⊎_elim (λ plain. inl plain) (λ halted. inr (n, halted, down b halted (inl refl))) all.0,
  lines_plain n e v bs all.1 (λ c is i. down c is (inr i)),
)

good_lines : (n e j : ℕ) (v : World) (outs : List Effect) → Good outs → AllByRecursion (IsPlainIn v) (numbered e (bodies n j outs))
good_lines n e j v outs good = plain (bodies n j outs) (only j outs good)
  where
    plain : (bs : List Body) → AllByRecursion (λ b. is_plain b ≡ true) bs → AllByRecursion (IsPlainIn v) (numbered e bs)
    plain [] all = tt
    plain (b ∷ bs) all = (inl all.0, plain bs all.1)

    only : (i : ℕ) (es : List Effect) → Good es → AllByRecursion (λ b. is_plain b ≡ true) (bodies n i es)
    only i [] all = tt
    only i (Say b ∷ es) all = let p = and_parts (is_plain b) (list_all says_plain es) all in (p.0, only i es p.1)
    only i (Do w ∷ es) all = only i es all
    only i (Send to m ∷ es) all = both_fine (λ b. is_plain b ≡ true) (sent_line (i + 1) n to (frame_kind m)) (bodies n (i + 1) es)
        (by (nat_le (i + 1) most_frames)) (only (i + 1) es all)
      where
        by : (b : Bool) → AllByRecursion (λ b. is_plain b ≡ true) (cond b (body.Sent (i + 1) n to (frame_kind m) ∷ []) [])
        by true = (refl, tt)
        by false = tt

-- ---- worlds

module _ (old : List Line) where
  -- all lines behind the old ones are so
  record IsPlain (w : World) : Type 0 where
    more : List Line
    are : w.lines ≡ old ++ more
    all : AllByRecursion (IsPlainIn w) more

  -- as long as who was down stays so
  abbrev StaysDown : World → World → Type 0
  StaysDown w v = (k : ℕ) → is_up_at k w ≡ false → is_up_at k v ≡ false

  each_down : (w v : World) → StaysDown w v → (ls : List Line) → AllByRecursion (IsPlainIn w) ls → AllByRecursion (IsPlainIn v) ls
  each_down w v down [] all = tt
  each_down w v down (l ∷ ls) all =
      (⊎_elim (λ plain. inl plain) (λ halted. inr (halted.0, halted.1, down halted.0 halted.2)) all.0, each_down w v down ls all.1)

  plain_on : (w v : World) (new : List Line) → v.lines ≡ w.lines ++ new → StaysDown w v → AllByRecursion (IsPlainIn v) new → IsPlain w →
      IsPlain v
  plain_on w v new is down plain p = record {
    more = p.more ++ new;
    are = is ∙ ap (λ ls. ls ++ new) p.are ∙ append_assoc old p.more new;
    all = both_fine (IsPlainIn v) p.more new (each_down w v down p.more p.all) plain;
  }

  plain_same : (w v : World) → v.lines ≡ w.lines → v.nodes ≡ w.nodes → IsPlain w → IsPlain v
  plain_same w v lines nodes p =
      record { more = p.more; are = lines ∙ p.are; all = each_down w v (λ k is. ap (λ ns. is_up (at_place k ns)) nodes ∙ is) p.more p.all }

  -- an input that a node which is down doesn't take, and at which a node says nothing else
  steps_plain : (n : ℕ) (i : Input) (w : World) → ((k : ℕ) → is_up_at k (steps n i w) ≡ true → is_up_at k w ≡ true) →
      ((a : Node) → Good (step w.header a i).outs × Good (step w.header a i).halting) → IsPlain w → IsPlain (steps n i w)
  steps_plain n i w idle says_so p = by (at_place n w.nodes) refl (λ k. stays k)
    where
      stays : (k : ℕ) → is_up_at k w ≡ false → is_up_at k (steps n i w) ≡ false
      stays k down = one (is_up_at k (steps n i w)) refl
        where
          one : (b : Bool) → is_up_at k (steps n i w) ≡ b → is_up_at k (steps n i w) ≡ false
          one false is = is
          one true is = let no_way : true ≡ false = sym (idle k is) ∙ down in absurd (cc no_way)

      by : (o : Option Node) → at_place n w.nodes ≡ o → StaysDown w (step_node n i w o) → IsPlain (step_node n i w o)
      by None none down = p
      by (Some a) there down = at_arm (at_number n w.arms) down
        where
          s : Step
          s = step w.header a i

          done : (arms : List (ℕ × Arm)) → StaysDown w (done_step n s (record w { arms = arms })) →
              IsPlain (done_step n s (record w { arms = arms }))
          done arms down =
              plain_on w (done_step n s (record w { arms = arms })) (numbered w.event (bodies n (length w.frames) s.outs)) refl down
              (good_lines n w.event (length w.frames) (done_step n s (record w { arms = arms })) s.outs (says_so a).0) p

          halts : (x : Cut) (arms : List (ℕ × Arm)) → AllByRecursion (SaysFine n) x.outs →
              StaysDown w (halted_at n a x (record w { arms = arms })) → IsPlain (halted_at n a x (record w { arms = arms }))
          halts x arms fine down = plain_on w (halted_at n a x (record w { arms = arms }))
              (numbered w.event (bodies n (length w.frames) (halted_outs n x))) refl down
              (lines_plain n w.event (halted_at n a x (record w { arms = arms })) (bodies n (length w.frames) (halted_outs n x))
              (bodies_fine n (length w.frames) (halted_outs n x)
              (both_fine (SaysFine n) x.outs (Say (body.Halted n) ∷ []) fine (inr refl, tt)))
              (λ b is there_too. ap is_up (place_same n (record a { disk = x.disk; live = None }) a w.nodes there))) p

          at_arm : (o : Option Arm) → StaysDown w (step_with n a s w o) → IsPlain (step_with n a s w o)
          at_arm None down = done w.arms down
          at_arm (Some r) down = two (nat_lt (count_works s.halting) r.works) down
            where
              two : (t : Bool) → let v = cond t (done_step n s (armed n (record r { works = r.works - count_works s.halting }) w))
                  (halted_at n a (cut (r.works - 1) r.how s.halting a.disk) (disarmed n w)) in StaysDown w v → IsPlain v
              two true down = done (armed n (record r { works = r.works - count_works s.halting }) w).arms down
              two false down = halts (cut (r.works - 1) r.how s.halting a.disk) (disarmed n w).arms
                  (cut_fine n (r.works - 1) r.how s.halting a.disk (fine_all n s.halting (says_so a).1)) down

  deliver_plain : (k : ℕ) (w : World) → IsPlain w → IsPlain (deliver k w)
  deliver_plain k w p = by (at_place k w.frames)
    where
      by : (o : Option Frame) → IsPlain (deliver_frame k w o)
      by None = p
      by (Some f) =
          let v = change_frame k as_delivered f w in
          steps_plain f.to (input.Frame k f.from f.message) v (λ j is. steps_up j f.to (input.Frame k f.from f.message) v
          (frame_idle k f.from f.message) is) (λ a. frame_plain v.header k f.from a f.message) (plain_same w v refl refl p)

  settle_plain : (fuel : ℕ) (w : World) → IsPlain w → IsPlain (settle_for fuel w)
  settle_plain zero w p = p
  settle_plain (suc fuel) w p = by (lowest w) (λ k. settle_plain fuel (deliver k w) (deliver_plain k w p))
    where
      by : (o : Option ℕ) → ((k : ℕ) → IsPlain (settle_for fuel (deliver k w))) →
          IsPlain (elim o [ None ↦ w | Some k ↦ settle_for fuel (deliver k w) ])
      by None rest = p
      by (Some k) rest = rest k

  ticks_plain : (ns : List ℕ) (w : World) → IsPlain w → IsPlain (tick_all ns w)
  ticks_plain [] w p = p
  ticks_plain (n ∷ ns) w p = ticks_plain ns (tick_up n w) (by (w.full || not (is_up_at n w)))
    where
      by : (b : Bool) → IsPlain (cond b w (steps n input.Tick w))
      by true = p
      by false = steps_plain n input.Tick w (λ j is. steps_up j n input.Tick w tick_idle is) (λ a. tick_plain w.header a) p

  -- a line more
  line_plain : (w v : World) (b : Body) → v.lines ≡ w.lines ++ numbered w.event (b ∷ []) → v.nodes ≡ w.nodes → is_plain b ≡ true →
      IsPlain w → IsPlain v
  line_plain w v b lines nodes plain p =
      plain_on w v (numbered w.event (b ∷ [])) lines (λ k is. ap (λ ns. is_up (at_place k ns)) nodes ∙ is) (inl plain, tt) p

  quiesce_plain : (w : World) → IsPlain w → IsPlain (limited (quiesce w))
  quiesce_plain w p = over (quiesce w) (line (settle (tick_all (node_numbers w) (settle w))) (settle_plain most_frames
      (tick_all (node_numbers w) (settle w)) (ticks_plain (node_numbers w) (settle w) (settle_plain most_frames w p))))
    where
      line : (v : World) → IsPlain v → IsPlain (quiet_line v)
      line v q = by v.full
        where
          by : (b : Bool) → IsPlain (cond b v (says (body.Quiet (is_quiet v) ∷ []) v))
          by true = q
          by false = line_plain v (says (body.Quiet (is_quiet v) ∷ []) v) (body.Quiet (is_quiet v)) refl refl refl q

      over : (v : World) → IsPlain v → IsPlain (limited v)
      over v q = by v.full
        where
          by : (b : Bool) → IsPlain (cond b (says (body.Limit which.Frames ∷ []) (record v { over = true })) v)
          by true = line_plain v (says (body.Limit which.Frames ∷ []) (record v { over = true })) (body.Limit which.Frames) refl refl refl q
          by false = q

pub quiesces_give_nothing_up : QuiescesGiveNothingUp
quiesces_give_nothing_up e w is over = subst Plain (sym run_is)
    (let p = quiesce_plain w.lines (counted w) (record { more = []; are = sym (append-nil w.lines); all = tt }) in (p.more, p.are, p.all))
  where
    Plain : World → Type 0
    Plain v = (more : List Line) × (v.lines ≡ w.lines ++ more) × AllByRecursion (IsPlainIn v) more

    run_is : run_event e w ≡ limited (quiesce (counted w))
    run_is = (λ i. cond (over i) w (run_unless e.event e.arm w (first_reason (reasons e.event w))))
        ∙ (λ i. run_unless (is i) e.arm w (first_reason (reasons (is i) w)))

-- ---- in a quiesce

-- what is behind the same lines is the same
pub cancel : (xs ys zs : List Line) → xs ++ ys ≡ xs ++ zs → ys ≡ zs
cancel [] ys zs is = is
cancel (x ∷ xs) ys zs is = cancel xs ys zs (rest x x (xs ++ ys) (xs ++ zs) is)
  where
    rest : (a b : Line) (ls ms : List Line) → a ∷ ls ≡ b ∷ ms → ls ≡ ms
    rest a b ls ms is = cc is

pub each_of : {A : Type 0} (P : A → Type 0) (xs : List A) (x : A) → AllByRecursion P xs → In x xs → P x
each_of P [] x all i = absurd i
each_of P (y ∷ ys) x all (inl is) = subst P is all.0
each_of P (y ∷ ys) x all (inr i) = each_of P ys x all.1 i

-- a line that isn't plain says that a node halted which is down
never_plain : {X : Type 0} (b : Body) → is_plain b ≡ true → is_plain b ≡ false → X
never_plain b plain isnt = let no_way : true ≡ false = sym plain ∙ isnt in absurd (cc no_way)

pub quiesces_answer_or_leave : QuiescesAnswerOrLeave
quiesces_answer_or_leave hd r m k c u q is over up found does waits =
    ⊎_elim (λ still. inl still) (λ ended. inr (answered ended)) (runs_answer_or_wait hd r (m ∷ []) k c u q found does waits)
  where
    w : World
    w = world_by hd r

    plain : (more : List Line) × ((moved m w).lines ≡ w.lines ++ more) × AllByRecursion (IsPlainIn (moved m w)) more
    plain = quiesces_give_nothing_up m.asked (record w { arms = m.falls }) is over

    answered : HasEnded k q w.lines (moved m w).lines → HasAnswer q w.lines (moved m w).lines
    answered e = record { more = e.more; line = e.line; are = e.are; there = e.there; answers = by e.ends }
      where
        same : plain.0 ≡ e.more
        same = cancel w.lines plain.0 e.more (sym plain.1 ∙ e.are)

        its : IsPlainIn (moved m w) e.line
        its = each_of (IsPlainIn (moved m w)) e.more e.line (subst (AllByRecursion (IsPlainIn (moved m w))) same plain.2)
            (in_from e.line e.more e.there)

        halted_up : (j : ℕ) → e.line.body ≡ body.Halted j → e.line.body ≡ body.Halted k → is_up_at j (moved m w) ≡ false → true ≡ false
        halted_up j is_j is_k down = sym up ∙ ap (λ n. is_up_at n (moved m w)) (number k j (sym is_k ∙ is_j)) ∙ down
          where
            number : (a b : ℕ) → body.Halted a ≡ body.Halted b → a ≡ b
            number a b same = cc same

        -- a line that isn't plain is none of them, unless it says a halt
        none_so : {X : Type 0} → ((j : ℕ) → e.line.body ≡ body.Halted j → is_up_at j (moved m w) ≡ false → X) →
            is_plain e.line.body ≡ false → X
        none_so halts isnt = ⊎_elim (λ p. never_plain e.line.body p isnt) (λ h. halts h.0 h.1 h.2) its

        by : EndsWait k q.label q.now e.line.body →
            IsAnswerTo q.now q.label e.line.body ⊎ ((why : Cause) × (e.line.body ≡ body.Aborted q.label why) × (is_refusal why ≡ true))
        by (IsAnswered a) = inl a
        by (IsAborted why is) = ⊎_elim (λ p. inr (why, is, sym (ap is_plain is) ∙ p))
            (λ h. let no_way : body.Aborted q.label why ≡ body.Halted h.0 = sym is ∙ h.1 in absurd (cc no_way)) its
        by (IsGivenUp n is) = none_so (λ j is_j down. let no_way : body.GaveUp q.label n ≡ body.Halted j = sym is ∙ is_j in
            absurd (cc no_way)) (ap is_plain is)
        by (HasHalted is) =
            none_so (λ j is_j down. let no_way : true ≡ false = halted_up j is_j is down in absurd (cc no_way)) (ap is_plain is)
