-- Requests to servers and to naming in which the machine has no part, walked through; and questions that are sent.
use Rattle.arj_law_parts.proofs.Words
use Words.{◌≡◌, ℕ, ◌+◌, ◌==◌, ◌||◌, List, [], ◌∷◌, ◌++◌, Bool, true, false, Option, Some, None, refl, sym, ◌∙◌, ap, subst, map, filter}
use Words.{if◌then◌else◌, option_map, not, is_some, AllByRecursion, list_all, and_parts, list_any-append, Uid, Binding, Head, Path, Mode}
use Words.{Line, Ask, Entry, Row, entry, last_uid, is_on, Reply, asked_by, response, top_path, top_of, Disk, Effect, Pair, Say, Send, Do}
use Words.{Served, void, reply, is_granted, Naming, is_over, on_counted, on_named, listed_entry, Named, Counted, Made, Live, lock_lines}
use Words.{bind_made, made_above, live_asked, make_asked, include_asked, bind_call, bind_named, conflict_on, live_above, next_server}
use Words.{lower_lines, is_lowered, lowered, in_use, note_made, note_named, note_other, Parts, Took, serve, served}
use Words.{sends_answer, if_naming, with_server, with_naming, naming_hello, holders, query_about, is_earlier, at_number, at_uid, binding_eq}
use Words.{AreAll, is_server_effect, numbered, all_both, all_if, activate_own, invoke_own, vote_own, Post, Seen, is_binding}
use Words.ask
use Words.body
use Words.message
use Words.mode
use Words.recorded
use Words.what
use Words.naming
use Words.server
use Rattle.arj_law_disk_view.proofs.Terms
use Terms.{World, or_left, up, said, posted, Walks, Up, Kinds, Claims, SeesDisks, SeesConfirmed, IsSeenByDisks, RequestIsWalked, begins}
use Terms.{was_begun}
use Rattle.arj_law_disk_view.proofs.view
use view.{Frames.says_seen, Frames.posts_seen, StoreWalks.took_is, ToldWalks.parts_seen}
use view.HeardWalks.{is_say, say_walk}
use Rattle.arj_law_disk_view.specs.view.Sees.{IsServed, HellosAreWalked}

-- ---- lines alone

server_says : (k : ℕ) (outs : List Effect) → AreAll (is_server_effect k) outs → AreAll is_say outs
server_says k [] own = refl
server_says k (Say b ∷ es) own = server_says k es (and_parts (is_server_effect k (Say b)) (list_all (is_server_effect k) es) own).1
server_says k (Send to m ∷ es) own = absurd (cc own)
server_says k (Do w ∷ es) own = absurd (cc own)

pub lock_says : (x : ℕ) (p : Path) (m : Mode) (o : Named) → AreAll is_say (lock_lines x p m o)
lock_says x p m o = all_if is_say (is_granted (entry x) (last_uid (top_path p)) m o.rows) []
    (Say (body.Granted 1 (last_uid (top_path p)) (entry x) m) ∷ []) refl refl

made_says : (inc x : ℕ) (p : Path) (e : Entry) (c : Counted) (m : Option Made) → AreAll is_say (bind_made inc x p e c m).outs
made_says inc x p e c (Some m) = lock_says x p mode.Write c.named
made_says inc x p e c None = all_both is_say (lock_lines x p mode.Write c.named) (Say (body.Bound x
    (record { inc = inc; count = c.count + 1 }) (next_server c.named.turn e.servers)) ∷ []) (lock_says x p mode.Write c.named) refl

live_says : (inc x : ℕ) (p : Path) (e : Entry) (c : Counted) (l : Live) (r : Option Row) → AreAll is_say (live_asked inc x p e c l r).outs
live_says inc x p e c l (Some r) = refl
live_says inc x p e c l None = lock_says x p mode.Read c.named

make_says : (inc x : ℕ) (p : Path) (avoid : Binding) (e : Entry) (c : Counted) (r : Option Row) →
    AreAll is_say (make_asked inc x p avoid e c r).outs
make_says inc x p avoid e c (Some r) = refl
make_says inc x p avoid e c None = made_says inc x p e c (made_above avoid (at_uid (top_of p) c.named.made))

include_says : (inc x : ℕ) (p : Path) (e : Entry) (c : Counted) (r : Option Row) → AreAll is_say (include_asked inc x p e c r).outs
include_says inc x p e c (Some r) = refl
include_says inc x p e c None = lock_says x p mode.Write c.named

call_says : (inc x : ℕ) (p : Path) (avoid : Binding) (e : Entry) (c : Counted) (l : Option Live) →
    AreAll is_say (bind_call inc x p avoid e c l).outs
call_says inc x p avoid e c (Some l) = live_says inc x p e c l (conflict_on x p mode.Read c.named)
call_says inc x p avoid e c None = make_says inc x p avoid e c (conflict_on x p mode.Write c.named)

named_says : (inc x : ℕ) (p : Path) (include : Bool) (avoid : Binding) (e : Entry) (c : Counted) →
    AreAll is_say (bind_named inc x p include avoid e c).outs
named_says inc x p true avoid e c = include_says inc x p e c (conflict_on x p mode.Write c.named)
named_says inc x p false avoid e c = call_says inc x p avoid e c (live_above avoid c.named.live)

pub bind_says : (p : Path) (x : ℕ) (include : Bool) (avoid : Binding) (d : Pair) (n : Naming) →
    AreAll is_say (naming.bind p x include avoid d n).outs
bind_says p x include avoid d n = by (is_over p n) (at_number x n.objects)
  where
    by : (b : Bool) (o : Option Named) →
        AreAll is_say (if b then void n else on_counted x (bind_named n.inc x p include avoid (listed_entry x d)) n o).outs
    by true o = refl
    by false None = refl
    by false (Some o) = named_says n.inc x p include avoid (listed_entry x d) (record { named = o; count = n.count })

bind_confirmed : (p : Path) (x : ℕ) (include : Bool) (avoid : Binding) (d : Pair) (n : Naming) →
    (let z = (naming.bind p x include avoid d n).part in z.confirmed) ≡ n.confirmed
bind_confirmed p x include avoid d n = by (is_over p n) (at_number x n.objects)
  where
    by : (b : Bool) (o : Option Named) → (let z =
        (if b then void n else on_counted x (bind_named n.inc x p include avoid (listed_entry x d)) n o).part in z.confirmed) ≡ n.confirmed
    by true o = refl
    by false None = refl
    by false (Some o) = refl

lower_says : (x : ℕ) (top : Uid) (o : Named) → AreAll is_say (lower_lines x top o)
lower_says x top o = all_if is_say (is_lowered x top o) (Say (body.Lowered 1 top (entry x)) ∷ []) [] refl refl

note_made_says : (x : ℕ) (top : Uid) (i : ℕ) (o : Named) (m : Made) → AreAll is_say (note_made x top i o m).outs
note_made_says x top i o m = by m.recorded
  where
    by : (b : Bool) → AreAll is_say (if b then reply o recorded.Yes else
        record { part = lowered x top (in_use top m i o); outs = lower_lines x top o; reply = Some recorded.Yes }).outs
    by true = refl
    by false = lower_says x top o

note_named_says : (x : ℕ) (top : Uid) (b : Binding) (i : ℕ) (o : Named) → AreAll is_say (note_named x top b i o).outs
note_named_says x top b i o = by (is_binding b o.recorded) (at_uid top o.made)
  where
    other : (m : Made) (c : Bool) → AreAll is_say (if c then note_made x top i o m else void o).outs
    other m true = note_made_says x top i o m
    other m false = refl

    by : (v : Bool) (m : Option Made) → AreAll is_say (if v then reply o recorded.Yes else note_other x top b i o m).outs
    by true m = refl
    by false None = refl
    by false (Some m) = other m (binding_eq b m.binding)

pub note_says : (p : Path) (x : ℕ) (b : Binding) (i g : ℕ) (n : Naming) → AreAll is_say (naming.note p x b i g n).outs
note_says p x b i g n = by (is_over p n || not (is_some (at_number x n.objects))) (g == n.inc) (at_number x n.objects)
  where
    by : (v c : Bool) (o : Option Named) → AreAll is_say (if v then void n else
        (if c then on_named x (note_named x (top_of p) b i) n o else reply n (recorded.Changed (what.Inc g n.inc)))).outs
    by true c o = refl
    by false false o = refl
    by false true None = refl
    by false true (Some o) = note_named_says x (top_of p) b i o

note_confirmed : (p : Path) (x : ℕ) (b : Binding) (i g : ℕ) (n : Naming) →
    (let z = (naming.note p x b i g n).part in z.confirmed) ≡ n.confirmed
note_confirmed p x b i g n = by (is_over p n || not (is_some (at_number x n.objects))) (g == n.inc) (at_number x n.objects)
  where
    by : (v c : Bool) (o : Option Named) → (let z = (if v then void n else (if c then on_named x (note_named x (top_of p) b i) n o else
        reply n (recorded.Changed (what.Inc g n.inc)))).part in z.confirmed) ≡ n.confirmed
    by true c o = refl
    by false false o = refl
    by false true None = refl
    by false true (Some o) = refl

-- ---- a part that answers

module _ (x k : ℕ) (tops : Kinds) (e : ℕ) (d : Disk) (t : Parts) (M : Seen) (W : World) (sees : SeesDisks x tops W (up k d t M)) where
  abbrev P : Seen → Type 0
  P = IsSeenByDisks x tops

  served_walk : {S R : Type 0} (from : ℕ) (h : Head) (put : S → Parts) (say : R → Reply) (r : Served S R) (v : Parts) (outs : List Effect) →
      AreAll is_say r.outs → SeesDisks x tops W (up k d (put r.part) M)
      → ((q : R) (lines : List Line) → Claims x tops W lines (record { from = k; to = from; message = response (asked_by h) (say q) })) →
      served from h put say r ≡ Took v outs → Walks P e k outs (Up P k v) d M
  served_walk {S} {R} from h put say r v outs says seen claims is = by r.reply is
    where
      by : (o : Option R) → sends_answer from h (put r.part) r.outs (option_map say o) ≡ Took v outs → Walks P e k outs (Up P k v) d M
      by None is = absurd (cc is)
      by (Some q) is = took_is x k tops e (λ a b. Walks P e k b (Up P k a) d M) (put r.part)
          (r.outs ++ Send from (response (asked_by h) (say q)) ∷ []) v outs is
          (say_walk x k tops e (put r.part) (put r.part) r.outs (Send from (response (asked_by h) (say q)) ∷ []) d W says
          (λ N s. λ more quiet. let p : Post = record { from = k; to = from; message = response (asked_by h) (say q) } in (
            W,
            says_seen x tops W (up k d (put r.part) (posted p N)) (numbered e more)
                (posts_seen x tops W (up k d (put r.part) N) p (claims q N.lines) s),
          )) M seen)

  server_seen : (s : server.Server) → SeesDisks x tops W (up k d (with_server t s) M)
  server_seen s = parts_seen x k tops W M d t (with_server t s) refl (λ f o is. f o is) sees

  naming_seen : (o n : Naming) → t.naming ≡ Some o → n.confirmed ≡ o.confirmed → SeesDisks x tops W (up k d (with_naming t n) M)
  naming_seen o n named same = parts_seen x k tops W M d t (with_naming t n) refl
      (λ f m is. let it : n ≡ m = (let j : ◌≡◌ {A = Option Naming} (Some n) (Some m) = is in cc j) in
      subst (λ (z : Naming). SeesConfirmed z W.disk) it (confirmed n (f o named) same)) sees
    where
      confirmed : (n : Naming) → SeesConfirmed o W.disk → n.confirmed ≡ o.confirmed → SeesConfirmed n W.disk
      confirmed n h same a on = h a (ap (λ us. is_on us a) (sym same) ∙ on)

  request_walk : (from : ℕ) (h : Head) (a : Ask) (v : Parts) (outs : List Effect) → IsServed a → serve k d t from h a ≡ Took v outs →
      Walks P e k outs (Up P k v) d M
  request_walk from h (ask.Activate b st) v outs kind is = served_walk from h (with_server t) Reply.Activated (server.activate k h.path b st
      t.server) v outs (server_says k (server.activate k h.path b st t.server).outs (activate_own k h.path b st t.server))
      (server_seen (server.activate k h.path b st t.server).part) (λ q lines. tt) is
  request_walk from h (ask.Invoke y b i ends op) v outs kind is = served_walk from h (with_server t) Reply.Invoked (server.invoke k h y b i
      ends op t.server) v outs (server_says k (server.invoke k h y b i ends op t.server).outs (invoke_own k h y b i ends op t.server))
      (server_seen (server.invoke k h y b i ends op t.server).part) (λ q lines. tt) is
  request_walk from h (ask.Vote i ties ends) v outs kind is = served_walk from h (with_server t) Reply.Voted (server.vote k h.path i ties
      ends t.server) v outs (server_says k (server.vote k h.path i ties ends t.server).outs (vote_own k h.path i ties ends t.server))
      (server_seen (server.vote k h.path i ties ends t.server).part) (λ q lines. tt) is
  request_walk from h (ask.Bind y include avoid) v outs kind is = by t.naming refl is
    where
      by : (o : Option Naming) → t.naming ≡ o → if_naming (λ n. served from h (with_naming t) Reply.Bound
          (naming.bind h.path y include avoid d.names n)) o ≡ Took v outs → Walks P e k outs (Up P k v) d M
      by None named is = absurd (cc is)
      by (Some n) named is = served_walk from h (with_naming t) Reply.Bound (naming.bind h.path y include avoid d.names n) v outs
          (bind_says h.path y include avoid d.names n) (naming_seen n (naming.bind h.path y include avoid d.names n).part named
          (bind_confirmed h.path y include avoid d.names n)) (λ q lines. tt) is
  request_walk from h (ask.Record y b i g) v outs kind is = by t.naming refl is
    where
      by : (o : Option Naming) → t.naming ≡ o → if_naming (λ n. served from h (with_naming t) Reply.Noted (naming.note h.path y b i g n)) o
          ≡ Took v outs → Walks P e k outs (Up P k v) d M
      by None named is = absurd (cc is)
      by (Some n) named is = served_walk from h (with_naming t) Reply.Noted (naming.note h.path y b i g n) v outs (note_says h.path y b i g
          n) (naming_seen n (naming.note h.path y b i g n).part named (note_confirmed h.path y b i g n)) (λ q lines. tt) is
  request_walk from h (ask.Load y) v outs kind is = absurd kind
  request_walk from h (ask.Prepare states) v outs kind is = absurd kind
  request_walk from h (ask.Confirm grants excluded included) v outs kind is = absurd kind

pub requests_are_served : RequestIsWalked IsServed
requests_are_served x tops e k d t v from h a outs M kind (W, s) claims is = request_walk x k tops e d t M W s from h a v outs kind is

-- ---- questions

abbrev pub HaveBegun : List Line → List Uid → Type 0
HaveBegun lines us = AllByRecursion (λ (u : Uid). was_begun u lines ≡ true) us

pub begun_on : (lines more : List Line) (us : List Uid) → HaveBegun lines us → HaveBegun (lines ++ more) us
begun_on lines more [] all = tt
begun_on lines more (u ∷ us) all = (
  list_any-append (λ (l : Line). begins u l.body) lines more ∙ or_left (was_begun u lines) (was_begun u more) all.0,
  begun_on lines more us all.1,
)

pub queries_walk : (x k : ℕ) (tops : Kinds) (e : ℕ) (d : Disk) (t : Parts) (W : World) (us : List Uid) (N : Seen) → HaveBegun N.lines us →
    SeesDisks x tops W (up k d t N) → Walks (IsSeenByDisks x tops) e k (map query_about us) (Up (IsSeenByDisks x tops) k t) d N
queries_walk x k tops e d t W [] N all s = (W, s)
queries_walk x k tops e d t W (u ∷ us) N all s = λ more quiet.
    let p : Post = record { from = k; to = u.node; message = message.Query (record { act = u }) } in
    queries_walk x k tops e d t W us (said e more (posted p N)) (begun_on N.lines (numbered e more) us all.1)
    (says_seen x tops W (up k d t (posted p N)) (numbered e more) (posts_seen x tops W (up k d t N) p all.0 s))

begun_some : (f : Uid → Bool) (lines : List Line) (us : List Uid) → HaveBegun lines us → HaveBegun lines (filter f us)
begun_some f lines [] all = tt
begun_some f lines (u ∷ us) all = by (f u) (begun_some f lines us all.1)
  where
    by : (b : Bool) → HaveBegun lines (filter f us) → HaveBegun lines (if b then u ∷ filter f us else filter f us)
    by true ih = (all.0, ih)
    by false ih = ih

pub hellos_are_walked : HellosAreWalked
hellos_are_walked x tops e k d t v node inc outs M begun (W, s) is =
    took_is x k tops e (λ a b. Walks (IsSeenByDisks x tops) e k b (Up (IsSeenByDisks x tops) k a) d M)
    (record t { naming = naming_hello node inc t.naming }) (map query_about (filter (is_earlier node inc) (holders d t))) v outs is
    (queries_walk x k tops e d (record t { naming = naming_hello node inc t.naming }) W (filter (is_earlier node inc) (holders d t)) M
    (begun_some (is_earlier node inc) M.lines (holders d t) begun)
    (parts_seen x k tops W M d t (record t { naming = naming_hello node inc t.naming }) refl (λ f o h. by t.naming refl f o h) s))
  where
    by : (n : Option Naming) → t.naming ≡ n → ((o : Naming) → t.naming ≡ Some o → SeesConfirmed o W.disk) → (o : Naming) →
        naming_hello node inc n ≡ Some o → SeesConfirmed o W.disk
    by None named f o h = absurd (cc h)
    by (Some n) named f o h = let same : naming.hello node inc n ≡ o = (let j : ◌≡◌ {A = Option Naming} (Some (naming.hello node inc n))
        (Some o) = h in cc j) in subst (λ (z : Naming). SeesConfirmed z W.disk) same (λ a on. f n named a on)
