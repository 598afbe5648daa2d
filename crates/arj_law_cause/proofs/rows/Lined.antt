-- Inside of an event each line that answers a call has its cause behind those before it.
use Rattle.arj_law_parts.proofs.Words
use Words.{◌≡◌, ◌∙◌, ◌==◌, ◌+◌, ◌++◌, ◌&&◌, ℕ, Bool, true, false, if◌then◌else◌, List, [], ◌∷◌, length, Option, Some, None, refl}
use Words.{sym, ap}
use Words.{filter, ◌⊎◌, In, inl, inr, subst, ⊤, AllByRecursion, list_all, and_parts, append-nil, append_assoc, map-append, Start, Asked}
use Words.{Body, Header, Kind}
use Words.{Label, Line, Message, Uid, Reply, answers, again_all, begin_action, end_line, Answered, CallEnd, Changed, Conflict}
use Words.{Ended, Goal, Include, Included, Lost, Run, Steps, given_up, Calling, Coord}
use Words.{Doing}
use Words.{doing_of, Disk, Do, Effect, Say, Send, stopped, worked, Handled, Parts, Took, Void, handle, with_coord}
use Words.{Input}
use Words.{Intent, kept_of, root_at, root_of, waits_for_call, acts as does, parent_of, parts_in, restart_outs, tick_outs}
use Words.{numbered, is_serial, Post, frame_kind, actor}
use Rattle.arj_protocol.specs.Asking.{answer_line}
use Words.{BoundReply, kept_at}
use Words.body
use Words.bound
use Words.frame
use Words.input
use Rattle.arj_law_lock_view.proofs.asking.{Handling.Goes, Handling.handle_goes, Keeping.its, Keeping.tree}
use Rattle.arj_law_lock_view.specs.asking.{Asked.accepted_of, Turns.AreDumb, Turns.is_reply}
use Rattle.arj_law_serial.proofs.Terms.{is_act, paths_of}
use Rattle.arj_law_parts.proofs.moves.{Flat.post, Together.with_both}
use Rattle.arj_law_parts.specs.moves.Moments.{Asking, History, Moment, asking_of, asks_now, at, fits, framed_if, given, halted, posted}
use Rattle.arj_law_parts.specs.moves.Moments.{said}
use Rattle.arj_law_parts.specs.moves.Moments.{sent, up, with_asking}
use Rattle.arj_law_parts.specs.moves.With.{ArePlain, IsFirst, KeepsSteps, UpWith, WalksWith, is_plain_line}
use Rattle.arj_law_parts.specs.moves.Seen as seen
use Rattle.arj_law_cause.proofs.rows.Entered.{IsSettled, settled_before}
use Rattle.arj_law_runs.proofs.follow.Walking.{behind_all}
use Rattle.arj_law_runs.specs.follow.Frames.{are_so}
use Rattle.arj_model.specs.CauseSpans.{Here, behind}
use Rattle.arj_model.specs.Past.{Asked as AskedOf}
use Rattle.arj_law_cause.proofs.rows.Asks.{AreSameAsks, asks_same, asks_some}
use Rattle.arj_law_cause.proofs.rows.Ending.{Ending, EndsBy, GaveUp, HasNone, Heard, Nothing, Said, Says, TurnsTo, acts_say, is_load, message_says}
use Rattle.arj_law_cause.proofs.rows.Rows.{changed_so, conflict_so, included_so, ok_so}
use Rattle.arj_law_runs.specs.addresses.Binds.{StandsOn}
use Words.{At, AtActivate, AtBind, AtInvoke, AtLoad, AtNote, Binding, Known, first_uid, list_any, ◌≤◌}
use Rattle.arj_law_cause.proofs.rows.Calls.{AreRising, asked_acts, from_accepted, other_call}
use Rattle.arj_law_cause.proofs.rows.Keepers.{IsFromCall, is_bind}
use Rattle.arj_law_cause.proofs.rows.Loading.{is_on_way}
use Rattle.arj_law_parts.proofs.parts.Begun.{path_some}
use Rattle.arj_model.specs.CauseAnswers.{is_other_call}
use Rattle.arj_law_serial.proofs.Terms.{acts}
use Rattle.arj_law_cause.proofs.rows.Locked.{LoadsAreLocked, own_of}
use Rattle.arj_law_cause.proofs.rows.Taking.{AskedPaths, IsCaller, IsPathAt, Works, caller, full_reply, given as are_given, invoke_kept}
use Rattle.arj_law_cause.proofs.rows.Taking.{kept_binding, live_kept}
use Rattle.arj_law_cause.proofs.rows.Taking.{off_called, replied, root_own, stands_on, step_so, taken, told}
use Rattle.arj_law_cause.proofs.waits.lost.Bound.{BoundFull, ReplyFull}
use Rattle.arj_law_cause.proofs.waits.lost.Stored.{IsFull}
use Rattle.arj_law_runs.proofs.journal.Beginning as Beginning
use Rattle.arj_law_runs.proofs.journal.Beginning.{named_at}
use Rattle.arj_law_lock_view.proofs.asking.Dumb.{restart_dumb, tick_dumb}
use Rattle.arj_law_lock_view.proofs.asking.Keeping.{mine}
use Rattle.arj_law_parts.specs.moves.With.{Brings}
use Rattle.arj_model.specs.CauseAnswers.{gives_up}
use Rattle.arj_law_cause.proofs.rows.Giving.{brings_give, given_lost, lost_so}
use Words.{Branch, branch_named, bytes_eq, bytes_eq-Decides, given_up, name, next_node}
use Rattle.arj_law_cause.specs.rows.Lines.{answer_fits}

-- ---- lines

-- a line that answers nothing fits
fits_any : (h : Here) (b : Body) → is_reply b ≡ false → answer_fits h b ≡ true
fits_any h (body.Ok l x o a) is = absurd (cc is)
fits_any h (body.Conflict l u m n) is = absurd (cc is)
fits_any h (body.Lost l n) is = absurd (cc is)
fits_any h (body.Includes l x n) is = absurd (cc is)
fits_any h (body.Changed l n d) is = absurd (cc is)
fits_any h b is = refl

plain_line : (b : Body) → is_plain_line b ≡ true → is_reply b ≡ false
plain_line (body.Ok l x o a) is = absurd (cc is)
plain_line (body.Includes l x n) is = absurd (cc is)
plain_line (body.Conflict l u m n) is = absurd (cc is)
plain_line (body.Lost l n) is = absurd (cc is)
plain_line (body.Changed l n d) is = absurd (cc is)
plain_line b is = refl

-- it fits wherever it stands
abbrev pub FitsAnywhere : Body → Type 0
FitsAnywhere b = (h : Here) → answer_fits h b ≡ true

abbrev AreFree : List Body → Type 0
AreFree bs = AllByRecursion FitsAnywhere bs

plain_free : (bs : List Body) → ArePlain bs → AreFree bs
plain_free [] plain = tt
plain_free (b ∷ bs) plain = let q = and_parts (is_plain_line b) (list_all is_plain_line bs) plain in
    ((λ h. fits_any h b (plain_line b q.0)), plain_free bs q.1)

free_so : (h : Here) (bs : List Body) → AreFree bs → are_so answer_fits h bs ≡ true
free_so h [] all = refl
free_so h (b ∷ bs) all = λ i. all.0 h i && free_so (behind h b) bs all.1 i

so_both : (h : Here) (cs bs : List Body) → are_so answer_fits h cs ≡ true → are_so answer_fits (behind_all h cs) bs ≡ true →
    are_so answer_fits h (cs ++ bs) ≡ true
so_both h [] bs first more = more
so_both h (c ∷ cs) bs first more =
    let p = and_parts (answer_fits h c) (are_so answer_fits (behind h c) cs) first in λ i. p.0 i && so_both (behind h c) cs bs p.1 more i

-- behind lines only they are more
pub behind_is : (h : Here) (bs : List Body) → behind_all h bs ≡ record h { lines = h.lines ++ numbered h.number bs }
behind_is h [] = λ i. record h { lines = sym (append-nil h.lines) i }
behind_is h (b ∷ bs) = behind_is (behind h b) bs
    ∙ (λ i. record h { lines = append_assoc h.lines (record { event = h.number; body = b } ∷ []) (numbered h.number bs) i })

-- what was asked has its path by some first lines, whatever comes
pub path_more : (ls ms : List Line) (q : Asking) → IsPathAt ls q → IsPathAt (ls ++ ms) q
path_more ls ms q h = record {
  first = h.first;
  more = h.more ++ ms;
  are = (λ i. h.are i ++ ms) ∙ append_assoc h.first h.more ms;
  path = h.path;
}

-- ---- effects

-- an effect's line fits wherever it stands
abbrev IsFree : Effect → Type 0
IsFree (Say b) = FitsAnywhere b
IsFree e = ⊤

abbrev AreFreeBy : List Effect → Type 0
AreFreeBy outs = AllByRecursion IsFree outs

dumb_free : (outs : List Effect) → AreDumb outs → AreFreeBy outs
dumb_free [] dumb = tt
dumb_free (Say b ∷ es) dumb = ((λ h. fits_any h b dumb.0), dumb_free es dumb.1)
dumb_free (Send to m ∷ es) dumb = (tt, dumb_free es dumb.1)
dumb_free (Do w ∷ es) dumb = (tt, dumb_free es dumb.1)

-- ---- tests

-- an input about an action begins none
no_begin : (i : Input) → is_act i ≡ true → (l : Label) (q : Kind) (p : Option Label) → i ≡ input.Begin l q p → ⊥
no_begin i is l q p same = let no_way : false ≡ true = sym (ap is_act same) ∙ is in cc no_way

some_is : {A : Type 0} {a b : A} → Some a ≡ Some b → a ≡ b
some_is {A} {a} {b} is = let k : ◌≡◌ {A = Option A} (Some a) (Some b) = is in cc

-- what loads is on its way
load_on : (at : At) → is_load at ≡ true → is_on_way at ≡ true
load_on (AtLoad k s rest) is = refl
load_on (AtBind avoid) is = absurd (cc is)
load_on (AtActivate k st) is = absurd (cc is)
load_on (AtNote k i) is = absurd (cc is)
load_on (AtInvoke k i) is = absurd (cc is)

-- an answer that names some store has one
none_full : (q : BoundReply) → BoundFull q → HasNone q → ⊥
none_full (bound.Live b server i g stores) full none = none
none_full (bound.Make b server g stores) full none = subst IsFull none full
none_full (bound.Write g stores) full none = subst IsFull none full
none_full (bound.Conflict u m) full none = none

-- ---- inside of an event

module _ (A : List AskedOf) (hd : Header) (st : Start) (before : List Line) (event : ℕ) where
  -- where a line comes, with these accepted events
  abbrev pub here_of : List AskedOf → Moment → List Line → Here
  here_of accepted M ls = record {
    header = hd;
    start = st;
    accepted = accepted;
    event = M.past.event;
    number = event;
    first = length before;
    lines = ls;
  }

  -- calls and includes of these are what was asked, and numbers rise
  abbrev pub IsAsked : List AskedOf → List AskedOf → Type 0
  IsAsked accepted asked = AreSameAsks accepted asked × AreRising accepted

  -- and those that count
  abbrev pub Accords : List AskedOf → List Asking → Type 0
  Accords accepted askings = IsAsked accepted (accepted_of askings) × (A ≡ accepted)

  -- behind these lines all are of the event, and each fits, whatever else was accepted
  pub record Lined (M : Moment) : Type 0 where
    pub number : M.past.number ≡ event
    pub first : (let r = M.past.run in r.lines) ≡ before
    pub wrote : List Body
    pub lines : M.seen.lines ≡ before ++ numbered event wrote
    pub paths : AskedPaths M
    pub fit : IsSettled M.seen.lines → (accepted : List AskedOf) → Accords accepted M.past.askings →
        are_so answer_fits (here_of accepted M before) wrote ≡ true

  more : (M : Moment) (ws bs : List Body) → M.past.number ≡ event → M.seen.lines ≡ before ++ numbered event ws →
      M.seen.lines ++ numbered M.past.number bs ≡ before ++ numbered event (ws ++ bs)
  more M ws bs number lines = (λ i. lines i ++ numbered (number i) bs) ∙ append_assoc before (numbered event ws) (numbered event bs)
      ∙ ap (λ ls. before ++ ls) (sym (map-append (λ (b : Body). record { event = event; body = b }) ws bs))

  -- lines come that fit
  said_so : (bs : List Body) (M : Moment) → (IsSettled M.seen.lines → (accepted : List AskedOf) →
      Accords accepted M.past.askings → (h : Here) →
      h ≡ here_of accepted M M.seen.lines → are_so answer_fits h bs ≡ true) → Lined M → Lined (said bs M)
  said_so bs M fit h = record {
    number = h.number;
    first = h.first;
    wrote = h.wrote ++ bs;
    lines = more M h.wrote bs h.number h.lines;
    paths = λ q i. path_more M.seen.lines (numbered M.past.number bs) q (h.paths q i);
    fit = λ early accepted same. let earlier = settled_before M.seen.lines (numbered M.past.number bs) early in
        so_both (here_of accepted M before) h.wrote bs (h.fit earlier accepted same)
        (fit earlier accepted same (behind_all (here_of accepted M before) h.wrote)
        (behind_is (here_of accepted M before) h.wrote ∙ (λ i. here_of accepted M (sym h.lines i))));
  }

  pub free_lined : (bs : List Body) (M : Moment) → AllByRecursion FitsAnywhere bs → Lined M → Lined (said bs M)
  free_lined bs M all h = said_so bs M (λ early accepted same g is. free_so g bs all) h

  one_lined : (b : Body) (M : Moment) → (IsSettled M.seen.lines → (accepted : List AskedOf) →
      Accords accepted M.past.askings → answer_fits (here_of accepted M M.seen.lines) b ≡ true) →
      Lined M → Lined (said (b ∷ []) M)
  one_lined b M fits h = said_so (b ∷ []) M
      (λ early accepted same g is. λ i. (ap (λ z. answer_fits z b) is ∙ fits early accepted same) i && true) h

  same_lined : (M N : Moment) → N.past ≡ M.past → N.seen.lines ≡ M.seen.lines → Lined M → Lined N
  same_lined M N past lines h = record {
    number = ap (λ p. p.number) past ∙ h.number;
    first = ap (λ p. let r = p.run in r.lines) past ∙ h.first;
    wrote = h.wrote;
    lines = lines ∙ h.lines;
    paths = λ q there. let p = h.paths q (subst (λ (z : History). In q z.askings) past there) in
        record { first = p.first; more = p.more; are = lines ∙ p.are; path = p.path };
    fit = λ early accepted same. (λ i. are_so answer_fits (record {
      header = hd;
      start = st;
      accepted = accepted;
      event = (let p = past i in p.event);
      number = event;
      first = length before;
      lines = before;
    }) h.wrote) ∙
        h.fit (subst IsSettled lines early) accepted
        ((same.0.0 ∙ ap (λ (p : History). filter asks_some (accepted_of p.askings)) past, same.0.1), same.1);
  }

  framed_lined : (b : Body) (M : Moment) (n : ℕ) → FitsAnywhere b → Lined M →
      Lined (record (said (b ∷ []) M) { past = record M.past { frames = n } })
  framed_lined b M n free h = let o = free_lined (b ∷ []) M (free, tt) h in
      record { number = o.number; first = o.first; wrote = o.wrote; lines = o.lines; paths = o.paths; fit = o.fit }

  halted_lined : (k : ℕ) (d : Disk) (M : Moment) → Lined M → Lined (halted k d M)
  halted_lined k d M h = let o = free_lined (body.Halted k ∷ []) M ((λ g. refl), tt) h in
      record { number = o.number; first = o.first; wrote = o.wrote; lines = o.lines; paths = o.paths; fit = o.fit }

  sent_lined : (p : Post) (M : Moment) → Lined M → Lined (sent p M)
  sent_lined p M h = by (p.to == p.from) (fits M)
    where
      by : (self fit : Bool) → Lined (if self then posted p M else framed_if fit p M)
      by true fit = same_lined M (posted p M) refl refl h
      by false true = let o = framed_lined (body.Sent (M.past.frames + 1) p.from p.to (frame_kind p.message)) M (M.past.frames + 1)
          (λ g. refl) h in
          record { number = o.number; first = o.first; wrote = o.wrote; lines = o.lines; paths = o.paths; fit = o.fit }
      by false false = h

  free_walk : (k : ℕ) (v : Parts) (outs : List Effect) (d : Disk) (M : Moment) → AllByRecursion IsFree outs → Lined M →
      WalksWith Lined k outs (UpWith Lined k v) d M
  free_walk k v [] d M all h = same_lined M (up k d v M) refl refl h
  free_walk k v (Do w ∷ es) d M all h = ((λ how. halted_lined k (stopped how w d) M h), free_walk k v es (worked w d) M all.1 h)
  free_walk k v (Say b ∷ es) d M all h = free_walk k v es d (said (b ∷ []) M) all.1 (free_lined (b ∷ []) M (all.0, tt) h)
  free_walk k v (Send to m ∷ es) d M all h = free_walk k v es d (sent (post k to m) M) all.1 (sent_lined (post k to m) M h)

  -- a call is asked where nothing is written yet
  asks_lined : (i : Input) (c : Coord) (M : Moment) → IsFirst M → Lined M → Lined (asks_now i c M)
  asks_lined i c M fresh h = record {
    number = h.number;
    first = h.first;
    wrote = [];
    lines = sym fresh ∙ h.first ∙ sym (append-nil before);
    paths = asked i;
    fit = λ early accepted same. refl;
  }
    where
      new : (l : Label) (q : Asking) → (asking_of l c M.past.run M.past.event ≡ q) ⊎ In q M.past.askings → IsPathAt M.seen.lines q
      new l q (inl is) = subst (IsPathAt M.seen.lines) is (record {
        first = (let r = M.past.run in r.lines);
        more = [];
        are = sym fresh ∙ sym (append-nil (let r = M.past.run in r.lines));
        path = refl;
      })
      new l q (inr i) = h.paths q i

      asked : (i : Input) (q : Asking) → In q (with_asking i c M.past.run M.past.event M.past.askings) → IsPathAt M.seen.lines q
      asked (input.Call l x o) q there = new l q there
      asked (input.Include l x n) q there = new l q there
      asked (input.Commit l) q there = new l q there
      asked i q there = h.paths q there

  -- ---- steps

  module _ (G : Moment → Type 0) (steps : KeepsSteps hd G)
      (works : (k : ℕ) (d : Disk) (t : Parts) (M : Moment) → G (up k d t M) → Works A hd k d t M)
      (locked : (k : ℕ) (d : Disk) (t : Parts) (M : Moment) → G (up k d t M) → LoadsAreLocked (up k d t M))
      (begins : (k : ℕ) (d : Disk) (t : Parts) (M : Moment) → G (up k d t M) → M.seen.start ≡ st) where
    abbrev Both : Moment → Type 0
    Both M = G M × Lined M

    both : (k : ℕ) (outs : List Effect) (v : Parts) (d : Disk) (M : Moment) → WalksWith G k outs (UpWith G k v) d M →
        WalksWith Lined k outs (UpWith Lined k v) d M → WalksWith Both k outs (UpWith Both k v) d M
    both k outs v d M a b = with_both G Lined k outs (UpWith G k v) (UpWith Lined k v) d M a b

    module _ (k : ℕ) (d : Disk) (t : Parts) (M : Moment) (W : Works A hd k d t M) (L : LoadsAreLocked (up k d t M)) (begun : M.seen.start ≡
        st)
        (h : Lined M) where
      busy : (u : Uid) (w : Doing) (s : Steps) → doing_of u t.coord ≡ Some w → w.now ≡ Calling s → actor s.path ≡ u
      busy u w s found is = let c = caller A hd k d t M W u w s found is in c.actor

      -- a binding that its root keeps it has from another call
      keeper : (accepted : List AskedOf) → Accords accepted M.past.askings → (u : Uid) (w : Doing) (s : Steps)
          (found : doing_of u t.coord ≡ Some w) (is : w.now ≡ Calling s) (avoid : Binding) → s.at ≡ AtBind avoid → (old : Known) →
          kept_of s.x (root_at (root_of s.path) t.coord) ≡ Some old →
          list_any (is_other_call (let c = caller A hd k d t M W u w s found is in let z = c.asked in let y = z.asking in y.asked) s.x)
          accepted
          ≡ true
      keeper accepted same u w s found is avoid at old keeps =
          other_call M.past.askings accepted same.0.0 same.0.1 t.coord (root_of s.path) (root_own A hd k d t M W u w s found is) s.x F
          (name w.label)
          (let z = c.asked.asking in z.asked) c.asked.last (F.other u w s found is (ap is_bind at)) (acts M.seen.lines) c.distinct
          (λ z i. asked_acts M.seen.lines from.0 (h.paths from.0 from.1) z (subst (λ (a : AskedOf). In z a.path) (sym from.2) i))
          (λ z i. asked_acts M.seen.lines c.asked.asking (h.paths c.asked.asking c.asked.there) z i) (ap first_uid c.asked.path)
          (subst (λ us. 1 ≤ length us) (sym c.asked.path) (path_some s.path))
        where
          c : IsCaller k M u w s
          c = caller A hd k d t M W u w s found is

          F : IsFromCall M.past.askings (accepted_of M.past.askings) t.coord (root_of s.path) s.x
          F = (own_of k d t M L).1 (root_of s.path) s.x old keeps

          from : (z : Asking) × In z M.past.askings × (z.asked ≡ F.asked)
          from = from_accepted F.asked M.past.askings F.there

      -- the line of a call that takes an answer
      line_fits : (from : ℕ) (m : Message) → seen.In (post from k m) M.seen.sent → (u : Uid) (w : Doing) (s : Steps) (g : CallEnd) →
          doing_of u t.coord ≡ Some w → w.now ≡ Calling s → (a : Asked) (r : Reply) → answers m ≡ Some (a, r) → a.act ≡ u →
          waits_for_call from a r s ≡ true → EndsBy (kept_at s t.coord) s.goal s.at r g → IsSettled M.seen.lines →
          (accepted : List AskedOf) →
          Accords accepted M.past.askings →
          answer_fits (here_of accepted M M.seen.lines) (end_line s.x s.goal g w.label) ≡ true
      line_fits from m there u w s g found is a r answer act waits ends early accepted same = by g ends
        where
          by : (g : CallEnd) → EndsBy (kept_at s t.coord) s.goal s.at r g →
              answer_fits (here_of accepted M M.seen.lines) (end_line s.x s.goal g w.label) ≡ true
          by (Answered b) ends = on s.goal refl
            where
              on : (z : Goal) → s.goal ≡ z → answer_fits (here_of accepted M M.seen.lines) (answer_line s.x z b w.label) ≡ true
              on (Run o) goal = ok_so A hd k M (here_of accepted M M.seen.lines) refl refl
                  (asks_same accepted (accepted_of M.past.askings) same.0.0) u w s (caller A hd k d t M W u w s found is) h.paths
                  (kept_of s.x (root_at (root_of s.path) t.coord)) (stands_on A hd k d t M W u w s found is) from a r
                  (taken A hd k d t M W u w s found is from m there a r answer act waits) ends.0 ends.1 o b ends.2 goal ends.3
              on (Include n) goal = let never : ⊥ = subst (λ z. StandsOn z (kept_of s.x (root_at (root_of s.path) t.coord))
                  (AtInvoke ends.0 ends.1)) goal (subst (StandsOn s.goal (kept_of s.x (root_at (root_of s.path) t.coord))) ends.2
                  (stands_on A hd k d t M W u w s found is)) in absurd never
          by (Included stored) ends =
              subst (λ z. answer_fits (here_of accepted M M.seen.lines) (end_line s.x z (Included stored) w.label) ≡ true) (sym ends.1)
              (included_so A hd k M (here_of accepted M M.seen.lines) refl refl
              (asks_same accepted (accepted_of M.past.askings) same.0.0) u w s (caller A hd k d t M W u w s found is) h.paths
              (kept_of s.x (root_at (root_of s.path) t.coord)) (stands_on A hd k d t M W u w s found is) ends.0 ends.1
              ((own_of k d t M L).0 u w s found is (load_on s.at ends.2)))
          by (Conflict v held n) ends = conflict_so A hd k M (here_of accepted M M.seen.lines) refl refl
              (asks_same accepted (accepted_of M.past.askings) same.0.0) u w s (caller A hd k d t M W u w s found is)
              h.paths (kept_of s.x (root_at (root_of s.path) t.coord)) (stands_on A hd k d t M W u w s found is) from a r
              (taken A hd k d t M W u w s found is from m there a r answer act waits) same.1 W.form early.early
              (off_called A hd k d t M W u w s found is) v held n ends
          by (Changed n x) ends = changed_so A hd k M (here_of accepted M M.seen.lines) refl refl
              (asks_same accepted (accepted_of M.past.askings) same.0.0) u w s (caller A hd k d t M W u w s found is) h.paths
              (kept_of s.x (root_at (root_of s.path) t.coord)) (stands_on A hd k d t M W u w s found is) from a r
              (taken A hd k d t M W u w s found is from m there a r answer act waits) (sym begun) (let z = early.early in z.few)
              (are_given A hd k d t M W u w s found is) early.begins ((own_of k d t M L).0 u w s found is)
              (λ avoid at old keeps. keeper accepted same u w s found is avoid at old keeps)
              (told A hd k d t M W u w s found is from m there a r answer act waits)
              (step_so A hd k d t M W u w s found is) (kept_binding A hd k d t M W u w s found is)
              (replied A hd k d t M W u w s found is from m there a r answer act waits)
              (λ o goal y i at. invoke_kept A hd k d t M W u w s found is early.early o goal y i at)
              (λ o goal avoid at b server i g stores live old first keeps has alike. live_kept A hd k d t M W u w s found is from m
              there a r
              answer act waits early.early o goal avoid at b server i g stores live old first keeps has alike) n x ends
          by (Lost n b) ends = absurd (none_full ends.0 (subst ReplyFull ends.1
              (full_reply A hd k d t M W u w s found is from m there a r answer act waits)) ends.2)

      message_lined : (v : Parts) (from : ℕ) (m : Message) (outs : List Effect) → seen.In (post from k m) M.seen.sent →
          handle k d t from m ≡ Took v outs → WalksWith Lined k outs (UpWith Lined k v) d M
      message_lined v from m outs there is = by (subst (Said k d t from m) is (message_says k d t from m busy (turns
          (handle k d t from m) goes)))
        where
          goes : Goes k d t from (handle k d t from m)
          goes =
              let q = W.paths in
              let i = its k d t M W.paths W.tied in
              handle_goes k d t from W.paths.2.0 (paths_of W.paths.2.0) (tree k d t M W.paths W.tied) i.coord
              (let u = i.its in u.numbered) m

          turns : (x : Handled) → Goes k d t from x → TurnsTo k d t from x
          turns (Void es) g = tt
          turns (Took z es) g = g.0

          by : Says (Heard t.coord from m) t.coord outs → WalksWith Lined k outs (UpWith Lined k v) d M
          by (Nothing dumb) = free_walk k v outs d M (dumb_free outs dumb) h
          by (Ending u w s g front found calls lined are (a, r, answer, takes)) =
              subst (λ es. WalksWith Lined k es (UpWith Lined k v) d M)
              (sym (are ∙ ap (λ es. es ++ Say (end_line s.x s.goal g w.label) ∷ []) takes.alone))
              (same_lined (said (end_line s.x s.goal g w.label ∷ []) M) (up k d v (said (end_line s.x s.goal g w.label ∷ []) M)) refl refl
              (one_lined (end_line s.x s.goal g w.label) M
              (line_fits from m there u w s g found calls a r answer takes.act takes.waits takes.ends) h))

      -- of an event that gives nothing up
      act_lined : (i : Input) (intents : List (Uid × Intent)) → ((l : Label) (q : Kind) (p : Option Label) → i ≡ input.Begin l q p → ⊥) →
          ((l : Label) → i ≡ input.GiveUp l → ⊥) → AreFreeBy (does i intents t.coord).outs
      act_lined i intents other kept = by (acts_say t.coord busy i intents other)
        where
          by : Says (GaveUp t.coord i) t.coord (does i intents t.coord).outs → AreFreeBy (does i intents t.coord).outs
          by (Nothing dumb) = dumb_free (does i intents t.coord).outs dumb
          by (Ending u w s g front found calls lined are (l, b, gives, named, why)) = absurd (kept l gives)

      -- of one that gives a call up
      give_lined : (l : Label) → Brings M.past.event (input.GiveUp l) → (let did = does (input.GiveUp l) d.intents t.coord in
          WalksWith Lined k did.outs (UpWith Lined k (with_coord t did.part)) d M)
      give_lined l brings = by (acts_say t.coord busy (input.GiveUp l) d.intents (no_begin (input.GiveUp l) refl))
        where
          lost : (u : Uid) (w : Doing) (s : Steps) (g : CallEnd) (m : Label) (b : Branch) → doing_of u t.coord ≡ Some w →
              w.now ≡ Calling s → input.GiveUp l ≡ input.GiveUp m → branch_named m t.coord ≡ Some b → u ≡ actor b.path →
              given_up s.at ≡ Ended g →
              (let N = said (body.GaveUp w.label (next_node s) ∷ []) M in IsSettled N.seen.lines) → (accepted : List AskedOf) →
              Accords accepted M.past.askings →
              (let N = said (body.GaveUp w.label (next_node s) ∷ []) M in
              answer_fits (here_of accepted N N.seen.lines) (end_line s.x s.goal g w.label) ≡ true)
          lost u w s g m b found calls gives named at_act ends early accepted same =
              let its = given_lost s.at g ends in
              let N = said (body.GaveUp w.label (next_node s) ∷ []) M in
              let H = here_of accepted N N.seen.lines in
              subst (λ e. answer_fits H (end_line s.x s.goal e w.label) ≡ true) (sym its.2)
              (subst (λ n. answer_fits H (body.Lost w.label n) ≡ true) its.3
              (lost_so k M H M.past.number u w s (caller A hd k d t M W u w s found calls) (next_node s) refl
              (asks_same accepted (accepted_of M.past.askings) same.0.0) before event h.wrote refl
              (more M h.wrote (body.GaveUp w.label (next_node s) ∷ []) h.number h.lines)
              (ap (gives_up (name w.label)) (brings_give M.past.event l brings) ∙ same_label)))
            where
              label_of_it : l ≡ m
              label_of_it = let z : l ≡ m = cc gives in z

              nm : Beginning.IsNamed t.coord m b
              nm = named_at t.coord (let i = its k d t M W.paths W.tied in i.names) m b named

              who : u ≡ nm.act
              who =
                  let i = mine k d t M W.paths W.tied nm.act nm.doing nm.does in
                  at_act ∙ ap (λ (z : Branch). actor z.path) (sym (some_is (sym i.found ∙ nm.found))) ∙ i.at_end

              doing_is : w ≡ nm.doing
              doing_is = some_is (sym found ∙ ap (λ z. doing_of z t.coord) who ∙ nm.does)

              same_label : bytes_eq (name l) (name w.label) ≡ true
              same_label = ap (bytes_eq (name l)) (ap (λ (z : Doing). name z.label) doing_is ∙ nm.name_is ∙ ap name (sym label_of_it))
                  ∙ (bytes_eq-Decides (name l) (name l)).1 refl

          by : Says (GaveUp t.coord (input.GiveUp l)) t.coord (does (input.GiveUp l) d.intents t.coord).outs →
              WalksWith Lined k (does (input.GiveUp l) d.intents t.coord).outs (UpWith Lined k
              (with_coord t (let did = does (input.GiveUp l) d.intents t.coord in did.part))) d M
          by (Nothing dumb) = free_walk k (with_coord t (let did = does (input.GiveUp l) d.intents t.coord in did.part))
              (does (input.GiveUp l) d.intents t.coord).outs d M (dumb_free (does (input.GiveUp l) d.intents t.coord).outs dumb) h
          by (Ending u w s g front found calls lined are (m, b, gives, named, why)) =
              let N = said (body.GaveUp w.label (next_node s) ∷ []) M in
              subst (λ es. WalksWith Lined k es (UpWith Lined k
              (with_coord t (let did = does (input.GiveUp l) d.intents t.coord in did.part))) d M)
              (sym (are ∙ ap (λ es. es ++ Say (end_line s.x s.goal g w.label) ∷ []) why.line))
              (same_lined (said (end_line s.x s.goal g w.label ∷ []) N) (up k d (with_coord t (let did =
              does (input.GiveUp l) d.intents t.coord in did.part)) (said (end_line s.x s.goal g w.label ∷ []) N)) refl refl
              (one_lined (end_line s.x s.goal g w.label) N
              (lost u w s g m b found calls gives named why.act why.ends)
              (free_lined (body.GaveUp w.label (next_node s) ∷ []) M ((λ z. refl), tt) h)))

      acts_lined : (i : Input) → is_act i ≡ true → Brings M.past.event i → IsFirst M →
          (let did = does i d.intents t.coord in
          WalksWith Lined k did.outs (UpWith Lined k (with_coord t did.part)) d (asks_now i t.coord M))
      acts_lined (input.GiveUp l) is brings fresh = give_lined l brings
      acts_lined i is brings fresh = let did = does i d.intents t.coord in
          free_walk k (with_coord t did.part) did.outs d (asks_now i t.coord M) (act_lined i d.intents (no_begin i is)
          (λ l same. absurd (cc same))) (asks_lined i t.coord M fresh h)

    pub lined_step : KeepsSteps hd Both
    lined_step = record {
      quiet = λ bs M plain h. (steps.quiet bs M plain h.0, free_lined bs M (plain_free bs plain) h.1);
      junk = λ n M fit h. (
        steps.junk n M fit h.0,
        framed_lined (body.Sent (M.past.frames + 1) 0 n frame.Junk) M (M.past.frames + 1) (λ g. refl) h.1,
      );
      stop = λ k d live M h. (steps.stop k d live M h.0, halted_lined k d M (same_lined (at k d live M) M refl refl h.1));
      message = λ k d t v from m outs M h there meant may is.
          both k outs v d M (steps.message k d t v from m outs M h.0 there meant may is)
          (message_lined k d t M (works k d t M h.0) (locked k d t M h.0) (begins k d t M h.0) (same_lined
          (up k d t M) M refl refl h.1) v from m outs there is);
      act = λ k d t i M is brings fresh asks free h. let did = does i d.intents t.coord in
          both k did.outs (with_coord t did.part) d (asks_now i t.coord M) (steps.act k d t i M is brings fresh asks free h.0)
          (acts_lined k d t M (works k d t M h.0) (locked k d t M h.0) (begins k d t M h.0) (same_lined (up k d t M) M refl refl h.1) i is
          brings fresh);
      begin = λ k d t l how parent M brings fresh new gives none h.
          let did = begin_action l how parent (parent_of parent t.coord) t.coord in
          both k did.outs (with_coord t did.part) d (given l (record { node = k; serial = is_serial how }) M)
          (steps.begin k d t l how parent M brings fresh new gives none h.0)
          (free_walk k (with_coord t did.part) did.outs d (given l (record { node = k; serial = is_serial how }) M) ((λ g. refl), tt)
          (same_lined (up k d t M) (given l (record { node = k; serial = is_serial how }) M) refl refl h.1));
      tick = λ k d t M h.
          let r = again_all t.coord.doings t.coord in
          let outs = tick_outs (record { number = k; disk = d; live = Some t }) t in
          both k outs (with_coord t r.part) d M (steps.tick k d t M h.0) (free_walk k (with_coord t r.part) outs d M
          (dumb_free outs (tick_dumb k d t)) (same_lined (up k d t M) M refl refl h.1));
      restart = λ k d M event first h.
          both k (restart_outs hd k (d.inc + 1) d) (parts_in k (d.inc + 1) d) d M (steps.restart k d M event first h.0)
          (free_walk k (parts_in k (d.inc + 1) d) (restart_outs hd k (d.inc + 1) d) d M
          (dumb_free (restart_outs hd k (d.inc + 1) d) (restart_dumb hd k (d.inc + 1) d)) (same_lined (at k d None M) M refl refl h.1));
    }
