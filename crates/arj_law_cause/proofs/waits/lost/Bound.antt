-- Each answer to a Bind names some store to load from: what is known of nodes and requests, with what answers say.
use Rattle.arj_law_parts.proofs.Words
use Words.{◌≡◌, ◌∙◌, ◌+◌, ◌++◌, ◌==◌, ℕ, Bool, true, false, cond, List, [], ◌∷◌, Option, Some, None, refl, sym, ap, subst, ⊤, IfSome, option_map}
use Words.{is_some, Ask, Asked, Binding, BoundReply, Effect, End, Entry, Head, Header, Message, Node, ObjectState, Path, Row, asks, entry}
use Words.{answers, asked_by, response, top_of, uids_of, Reply, Disk, Say, Send, Handled, Naming, Parts, Took, Void, handle_ask, if_naming, serve}
use Words.{sends_answer, held_at, Counted, Live, Made, Named, Pair, bind, bind_call, bind_made, bind_named, conflict_on, include_asked, is_over}
use Words.{entry_of, listed_entry, live_above, live_asked, made_above, make_asked, on_counted, Served, void, at_number, at_uid, holder_of}
use Words.{load_by, load_held, object, prepare_by, prepare_answer, is_prepared, actor, Prep, Already, InDoubt, Old, Ready, is_meant, Seen}
use Words.{acts as does, again_all, begin_action, is_serial, parent_of, parts_in, restart_outs, tick_outs, with_coord}
use Words.ask
use Words.bound
use Words.mode
use Words.naming
use Rattle.arj_law_runs.proofs.Terms.{HasEntry, NamedOf, keeps_asked, IsAtStarts}
use Rattle.arj_law_runs.proofs.addresses.{Lists.keyed_found, Runs.kept}
use Rattle.arj_law_runs.proofs.calls.WorldSteps.{reads_back}
use Rattle.arj_law_runs.specs.addresses.Addresses.{AreAddressed, IsNode, NamesOf}
use Rattle.arj_promise.specs.Runs.{HeaderFits}
use Rattle.arj_law_lock_view.proofs.Terms.{same_number}
use Rattle.arj_law_lock_view.proofs.moments.Answers.{Known, answers_step, first_made, known_wide, made_closes, made_opens}
use Rattle.arj_law_lock_view.specs.moments.Made.{AnswersAreMade, Saying, Tells}
use Rattle.arj_law_parts.proofs.moves.{Happens.Wide, Happens.wide_kept, Together.with_both}
use Rattle.arj_law_parts.specs.moves.Moments.{Moment, asks_now, given, up}
use Rattle.arj_law_parts.specs.moves.With.{KeepsAll, KeepsSteps, KeepsWith, UpWith}
use Rattle.arj_law_cause.proofs.waits.lost.Keeping.{DisksFull, disks_keep}
use Rattle.arj_law_cause.proofs.waits.lost.Stored.{IsFull, NamesFull, listed_full}
use Rattle.arj_law_cause.proofs.waits.waiting.Knowing.{Core, core_keep}

-- ---- relations together

pub steps_both : (hd : Header) (P Q : Moment → Type 0) → KeepsSteps hd P → KeepsSteps hd Q → KeepsSteps hd (λ M. P M × Q M)
steps_both hd P Q a b = record {
  quiet = λ bs M plain h. (a.quiet bs M plain h.0, b.quiet bs M plain h.1);
  junk = λ n M fit h. (a.junk n M fit h.0, b.junk n M fit h.1);
  stop = λ k d live M h. (a.stop k d live M h.0, b.stop k d live M h.1);
  message = λ k d t v from m outs M h there meant may is. with_both P Q k outs (UpWith P k v) (UpWith Q k v) d M
      (a.message k d t v from m outs M h.0 there meant may is) (b.message k d t v from m outs M h.1 there meant may is);
  act = λ k d t i M is brings first asks free h. let did = does i d.intents t.coord in
      with_both P Q k did.outs (UpWith P k (with_coord t did.part)) (UpWith Q k (with_coord t did.part)) d (asks_now i t.coord M)
      (a.act k d t i M is brings first asks free h.0) (b.act k d t i M is brings first asks free h.1);
  begin = λ k d t l how parent M brings first new gives none h.
      let did = begin_action l how parent (parent_of parent t.coord) t.coord in
      with_both P Q k did.outs (UpWith P k (with_coord t did.part)) (UpWith Q k (with_coord t did.part)) d
      (given l (record { node = k; serial = is_serial how }) M)
      (a.begin k d t l how parent M brings first new gives none h.0) (b.begin k d t l how parent M brings first new gives none h.1);
  tick = λ k d t M h. let v = with_coord t (again_all t.coord.doings t.coord).part in
      with_both P Q k (tick_outs (record { number = k; disk = d; live = Some t }) t) (UpWith P k v) (UpWith Q k v) d M
      (a.tick k d t M h.0) (b.tick k d t M h.1);
  restart = λ k d M event first h. let v = parts_in k (d.inc + 1) d in
      with_both P Q k (restart_outs hd k (d.inc + 1) d) (UpWith P k v) (UpWith Q k v) d M (a.restart k d M event first h.0)
      (b.restart k d M event first h.1);
}

pub all_both : (hd : Header) (P Q : Moment → Type 0) → KeepsAll hd P → KeepsAll hd Q → KeepsAll hd (λ M. P M × Q M)
all_both hd P Q a b = record {
  opens = λ e M first number h. (a.opens e M first number h.0, b.opens e M first number h.1);
  closes = λ bodies M number lines h. (a.closes bodies M number lines h.0, b.closes bodies M number lines h.1);
  steps = steps_both hd P Q a.steps b.steps;
  first = λ st formed. (a.first st formed, b.first st formed);
}

-- ---- what is known

-- of entries, and that naming has an entry of each of its objects
abbrev pub Entries : Header → Moment → Type 0
Entries hd M = Wide DisksFull M × Wide (AreAddressed hd) M

-- and of requests, and of actions
abbrev pub Base : Header → Moment → Type 0
Base hd M = Core M × (Wide Known M × Entries hd M)

wide_all : (hd : Header) (P : Seen → Type 0) → KeepsWith hd (IsAtStarts hd P) (Wide P) → KeepsAll hd (Wide P)
wide_all hd P k =
    record { opens = k.opens; closes = k.closes; steps = k.steps; first = λ st formed. ([], (λ p i. i), k.first st formed) }

base_keep : (hd : Header) → HeaderFits hd → KeepsAll hd (Base hd)
base_keep hd form = all_both hd Core (λ M. Wide Known M × Entries hd M) (core_keep hd)
    (all_both hd (Wide Known) (Entries hd) (wide_all hd Known (known_wide hd))
    (all_both hd (Wide DisksFull) (Wide (AreAddressed hd))
    (wide_all hd DisksFull (wide_kept hd (IsAtStarts hd DisksFull) DisksFull (keeps_asked hd DisksFull (disks_keep hd form))))
    (wide_all hd (AreAddressed hd) (wide_kept hd (IsAtStarts hd (AreAddressed hd)) (AreAddressed hd) (kept hd form)))))

-- ---- what answers say

-- an answer to a Bind that goes on to load names some store
abbrev pub BoundFull : BoundReply → Type 0
BoundFull (bound.Make b server g stores) = IsFull stores
BoundFull (bound.Write g stores) = IsFull stores
BoundFull r = ⊤

abbrev pub ReplyFull : Reply → Type 0
ReplyFull (Reply.Bound r) = BoundFull r
ReplyFull r = ⊤

abbrev pub says_full : Saying
says_full a before = ReplyFull (let z = a in z.reply)

some_is : {A : Type 0} {a b : A} → Some a ≡ Some b → a ≡ b
some_is {A} {a} {b} is = let k : ◌≡◌ {A = Option A} (Some a) (Some b) = is in cc

-- what is sent last
abbrev last_of : List Effect → Option Effect
last_of [] = None
last_of (e ∷ []) = Some e
last_of (e ∷ f ∷ es) = last_of (f ∷ es)

last_is : (es : List Effect) (e : Effect) → last_of (es ++ e ∷ []) ≡ Some e
last_is [] e = refl
last_is (a ∷ []) e = refl
last_is (a ∷ b ∷ es) e = last_is (b ∷ es) e

abbrev reply_in : Effect → Option (Asked × Reply)
reply_in (Send to m) = answers m
reply_in e = None

abbrev outs_in : Handled → List Effect
outs_in (Void outs) = outs
outs_in (Took v outs) = outs

-- a message that is void isn't taken
never_took : (outs : List Effect) (v : Parts) (fs : List Effect) → Void outs ≡ Took v fs → ⊥
never_took outs v fs is = cc is

same_reply : (from : ℕ) (h : Head) (r q : Reply) (front outs : List Effect) → front ++ Send from (response (asked_by h) r) ∷ [] ≡
    outs ++ Send from (response (asked_by h) q) ∷ [] → r ≡ q
same_reply from h r q front outs same =
    let one : Send from (response (asked_by h) r) ≡ Send from (response (asked_by h) q) =
    some_is (sym (last_is front (Send from (response (asked_by h) r))) ∙ ap last_of same ∙ last_is outs
    (Send from (response (asked_by h) q))) in
    let two : ◌≡◌ {A = Option (Asked × Reply)} (Some (asked_by h, r)) (Some (asked_by h, q)) =
    sym (reads_back (asked_by h) r) ∙ ap reply_in one ∙ reads_back (asked_by h) q in
    ap (λ (z : Asked × Reply). z.1) (some_is two)

-- ---- a Bind

module _ (inc x : ℕ) (p : Path) (e : Entry) (full : IsFull e.stores) (c : Counted) where
  named_says : (include : Bool) (avoid : Binding) → IfSome (bind_named inc x p include avoid e c).reply BoundFull
  named_says true avoid = by (conflict_on x p mode.Write c.named)
    where
      by : (r : Option Row) → IfSome (include_asked inc x p e c r).reply BoundFull
      by (Some r) = tt
      by None = full
  named_says false avoid = by (live_above avoid c.named.live)
    where
      live : (l : Live) (r : Option Row) → IfSome (live_asked inc x p e c l r).reply BoundFull
      live l (Some r) = tt
      live l None = tt

      made : (m : Option Made) → IfSome (bind_made inc x p e c m).reply BoundFull
      made (Some m) = full
      made None = full

      make : (r : Option Row) → IfSome (make_asked inc x p avoid e c r).reply BoundFull
      make (Some r) = tt
      make None = made (made_above avoid (at_uid (top_of p) c.named.made))

      by : (l : Option Live) → IfSome (bind_call inc x p avoid e c l).reply BoundFull
      by (Some l) = live l (conflict_on x p mode.Read c.named)
      by None = make (conflict_on x p mode.Write c.named)

bind_says : (d : Pair) (n : Naming) (p : Path) (x : ℕ) (include : Bool) (avoid : Binding) → NamesFull d →
    ((o : Named) → at_number x n.objects ≡ Some o → HasEntry d x) → IfSome (bind p x include avoid d n).reply BoundFull
bind_says d n p x include avoid names has = by (is_over p n)
  where
    call : Counted → Served Counted BoundReply
    call = bind_named n.inc x p include avoid (listed_entry x d)

    full : HasEntry d x → IsFull (let e = listed_entry x d in e.stores)
    full there = one (held_at (entry x) d) refl
      where
        one : (o : Option ObjectState) → held_at (entry x) d ≡ o → IsFull (let e = entry_of o in e.stores)
        one None is = let no_way : false ≡ true = sym (ap is_some is) ∙ there in absurd (cc no_way)
        one (Some s) is = listed_full x d s names is

    there : (o : Option Named) → at_number x n.objects ≡ o → IfSome (on_counted x call n o).reply BoundFull
    there None is = tt
    there (Some o) is =
        named_says n.inc x p (listed_entry x d) (full (has o is)) (record { named = o; count = n.count }) include avoid

    by : (b : Bool) → IfSome (cond b (void n) (on_counted x call n (at_number x n.objects))).reply BoundFull
    by true = tt
    by false = there (at_number x n.objects) refl

-- ---- a request that is served

module _ (hd : Header) (k : ℕ) (d : Disk) (t v : Parts) (from : ℕ) (h : Head) (r : Reply) (front : List Effect) (M : Moment)
    (known : Base hd (up k d t M)) where
  abbrev Sent : Handled → Type 0
  Sent z = z ≡ Took v (front ++ Send from (response (asked_by h) r) ∷ [])

  here : (let N = up k d t M in N.seen.nodes k) ≡ Some (record { number = k; disk = d; live = Some t })
  here = λ i. cond (same_number k i) (Some (record { number = k; disk = d; live = Some t })) (M.seen.nodes k)

  names : NamesFull d.names
  names = known.1.1.0.2 k (record { number = k; disk = d; live = Some t }) here

  has_entries : NamesOf (IsNode hd) d.names t.naming
  has_entries = let n = known.1.1.1.2.1.0 k (record { number = k; disk = d; live = Some t }) here in let p = n.2 in p.naming

  answer_says : (w : Parts) (outs : List Effect) (o : Option Reply) → IfSome o ReplyFull → Sent (sends_answer from h w outs o) → ReplyFull r
  answer_says w outs None all e = absurd (never_took _ v _ e)
  answer_says w outs (Some q) all e = subst ReplyFull (sym (same_reply from h r q front outs (sym (ap outs_in e)))) all

  plain : {R : Type 0} (say : R → Reply) → ((q : R) → ReplyFull (say q)) → (o : Option R) → IfSome (option_map say o) ReplyFull
  plain say each None = tt
  plain say each (Some q) = each q

  with_it : (f : Naming → Handled) (o : Option Naming) → NamesOf (IsNode hd) d.names o →
      ((n : Naming) → NamesOf (IsNode hd) d.names (Some n) → Sent (f n) → ReplyFull r) → Sent (if_naming f o) → ReplyFull r
  with_it f None all each e = absurd (never_took _ v _ e)
  with_it f (Some n) all each e = each n all e

  binds : (o : Option BoundReply) → IfSome o BoundFull → IfSome (option_map Reply.Bound o) ReplyFull
  binds None full = tt
  binds (Some q) full = full

  served_full : (a : Ask) → Sent (serve k d t from h a) → ReplyFull r
  served_full (ask.Bind x include avoid) is = with_it _ t.naming has_entries (λ n all e.
      let b = bind h.path x include avoid d.names n in
      answer_says _ b.outs (option_map Reply.Bound b.reply)
      (binds b.reply (bind_says d.names n h.path x include avoid names
      (λ o at. (keyed_found (HasEntry d.names) (NamedOf (IsNode hd)) x n.objects o all at).0))) e) is
  served_full (ask.Load x) is = load (holder_of (object x) d.store) is
    where
      held : (s : Option ObjectState) → Sent (load_held from h t s) → ReplyFull r
      held None e = absurd (never_took (Words.Do Words.Look ∷ []) v (front ++ Send from (response (asked_by h) r) ∷ []) e)
      held (Some s) e = answer_says t (Words.Do Words.Look ∷ []) (Some (Reply.Loaded (Words.loaded.State s))) tt e

      load : (o : Option Words.Uid) → Sent (load_by x d.store from h t o) → ReplyFull r
      load (Some u) e = answer_says t [] (Some (Reply.Loaded (Words.loaded.InDoubt u))) tt e
      load None e = held (held_at (object x) d.store) e
  served_full (ask.Activate b st) e = answer_says _ _ _ (plain Reply.Activated (λ q. tt) _) e
  served_full (ask.Record x b i g) is =
      with_it _ t.naming has_entries (λ n all e. answer_says _ _ _ (plain Reply.Noted (λ q. tt) _) e) is
  served_full (ask.Invoke x b i ends o) e = answer_says _ _ _ (plain Reply.Invoked (λ q. tt) _) e
  served_full (ask.Vote i ties ends) e = answer_says _ _ _ (plain Reply.Voted (λ q. tt) _) e
  served_full (ask.Prepare states) is = each (is_prepared (actor h.path) d.store) is
    where
      looked : List Effect
      looked = Words.Do Words.Look ∷ []

      new : (a : Prep) → Sent (prepare_by k states from h t a) → ReplyFull r
      new Ready e = answer_says t (Words.Do Words.Look ∷ Words.Do (Words.Prepare Words.role.Store (actor h.path) states) ∷ Say
          (Words.body.Prepared k (actor h.path) Words.role.Store) ∷ []) (Some (Reply.Prepared Words.prepared.Yes)) tt e
      new (Already u) e = absurd (never_took looked v (front ++ Send from (response (asked_by h) r) ∷ []) e)
      new (Old u w) e = answer_says t looked (Some (Reply.Prepared (Words.prepared.Old u.num w))) tt e
      new (InDoubt u holder) e = answer_says t looked (Some (Reply.Prepared (Words.prepared.InDoubt u.num holder))) tt e

      each : (b : Bool) → Sent (cond b (sends_answer from h t [] (Some (Reply.Prepared Words.prepared.Yes)))
          (prepare_by k states from h t (prepare_answer (actor h.path) states d.store))) → ReplyFull r
      each true e = answer_says t [] (Some (Reply.Prepared Words.prepared.Yes)) tt e
      each false e = new (prepare_answer (actor h.path) states d.store) e
  served_full (ask.Confirm grants excluded included) is =
      with_it _ t.naming has_entries (λ n all e. answer_says _ _ _ (plain Reply.Confirmed (λ q. tt) _) e) is

tells_full : (hd : Header) → Tells (Base hd) says_full
tells_full hd k d t v from m h a r front M known there other meant asking new is =
    served_full hd k d t v from h r front M known a (sym (ap (handle_ask k d t from m) asking) ∙ is)

-- ---- each answer was made so

abbrev pub Stocked : Header → Moment → Type 0
Stocked hd M = Base hd M × AnswersAreMade says_full M

pub stocked_keep : (hd : Header) → HeaderFits hd → KeepsAll hd (Stocked hd)
stocked_keep hd form = let base = base_keep hd form in record {
  opens = λ e M first number h. (base.opens e M first number h.0, made_opens says_full e M first number h.1);
  closes = λ bodies M number lines h. (base.closes bodies M number lines h.0, made_closes says_full bodies M number lines h.1);
  steps = answers_step hd says_full (Base hd) base.steps (λ M h. h.1.0) (tells_full hd);
  first = λ st formed. (base.first st formed, first_made hd says_full st formed);
}
