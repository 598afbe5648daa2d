-- A node is greeted only where a line says that one came up: no handler sends a hello but a restart, and that says so first.
use Rattle.arj_law_parts.proofs.Words
use Words.{◌≡◌, ◌∙◌, ◌+◌, ◌||◌, ◌++◌, ℕ, Bool, true, false, cond, List, [], ◌∷◌, map, refl, sym, ap, subst, ⊤, inl, inr}
use Words.{⊎_elim}
use Words.{list_any-append, AllByRecursion, Option, Some, None, Uid, Header, End, Ask, Asked, Head}
use Words.{Path, Body}
use Words.{Line, Message, request, Reply, response, asked_by, asks, again_all, again_now, asks_all, asks_node, begin_action, acts}
use Words.{tick_outs, with_coord, Coord, Doing, Now, Idle, Calling, Committing, plan_of, waiting, Disk, Do, Effect, Say, Send, Intent}
use Words.{Look}
use Words.{worked, Parts, Took, handle, parent_of, parts_in, Seen, Post, is_serial, at_uid, tolds_again}
use Words.{query_about}
use Words.{holders, answer_query, answer_decided, answer_recorded, is_deferred, is_kept_commit, is_open, branch_of, root_or_self, tell}
use Words.{tell_all}
use Words.{has, next_ask, ends_of, root_of, numbered, naming_at, naming_back, recovered_records, uid_set, prepared_actions}
use Words.{hello_to}
use Words.{numbers_to, without_number}
use Words.ask
use Words.body
use Words.ending
use Words.message
use Rattle.arj_law_runs.proofs.Terms
use Terms.{Keeps, given, posted, said, Up, Walks, In}
use Rattle.arj_law_parts.proofs.coordinator
use coordinator.Trace.{AsksIt, Came, Out, PutsRecord, RemovesRecord, Says, SaysBegan, TellsCommitted, TellsLeft, TellsLetGo, TellsNested}
use coordinator.Trace.{TellsSerial, TellsTop, Trace, trace_says}
use coordinator.Walks.{acts_trace, heard_trace, acked_trace}
use Rattle.arj_law_lock_view.proofs.running.LeftSteps.{AreSentTo, IsPlain}
use Rattle.arj_law_serial.proofs.Terms.{all_append, all_flat, all_map}
use Rattle.arj_law_serial.proofs.whole.CoordCases.{CoordCase, coord_case}
use Rattle.arj_law_serial.proofs.whole.CoordCases as cases
use Rattle.arj_law_cause.proofs.sending.Fits.{has_up}
use Rattle.arj_law_cause.specs.kinds.Kinds.{is_up}

abbrev pub greets : Message → Bool
greets (message.Hello m) = true
greets _ = false

-- the effect greets nobody
abbrev Plain : Effect → Type 0
Plain (Send to m) = greets m ≡ false
Plain (Say b) = ⊤
Plain (Do w) = ⊤

abbrev ArePlain : List Effect → Type 0
ArePlain es = AllByRecursion Plain es

abbrev pub GreetsUp : Seen → Type 0
GreetsUp M = has_up M.lines ≡ false → (p : Post) → In p M.sent → greets p.message ≡ false

-- ---- what handlers send

requests : (h : Head) (a : Ask) → greets (request h a) ≡ false
requests h (ask.Bind x include avoid) = refl
requests h (ask.Load x) = refl
requests h (ask.Activate b st) = refl
requests h (ask.Record x b i g) = refl
requests h (ask.Invoke x b i ends op) = refl
requests h (ask.Vote i ties ends) = refl
requests h (ask.Prepare states) = refl
requests h (ask.Confirm grants ex inc) = refl

responses : (a : Asked) (r : Reply) → greets (response a r) ≡ false
responses a (Reply.Bound r) = refl
responses a (Reply.Loaded r) = refl
responses a (Reply.Activated i) = refl
responses a (Reply.Noted r) = refl
responses a (Reply.Invoked r) = refl
responses a (Reply.Voted r) = refl
responses a (Reply.Prepared r) = refl
responses a (Reply.Confirmed r) = refl

trace_plain : {c : Coord} {came : Came} {e : Coord} {outs : List Effect} → Trace c came c outs e → ArePlain outs
trace_plain {c} {came} t = (trace_says (λ f. ⊤) (λ f g m h. tt) Plain (λ f x o h. out f x o) t tt).1
  where
    out : {when : Came} (f : Coord) (x : Effect) → Out c when f x → Plain x
    out _ _ (AsksIt p req n a e q) = requests (record { path = p; req = req }) a
    out _ _ (SaysBegan l k parent intents) = tt
    out _ _ (Says u g d e line found) = tt
    out _ _ (TellsNested u how g b n e ends over found nested told) = refl
    out _ _ (TellsSerial u how g b n e ends over found serial sent off) = refl
    out _ _ (TellsTop u how g b n e ends over found nested serial sent) = refl
    out _ _ (PutsRecord u p ends is) = tt
    out _ _ (TellsCommitted u p n e ends sent is) = refl
    out _ _ (TellsLeft u p n e ends sent is) = refl
    out _ _ (RemovesRecord from u intents i found there none) = tt
    out _ _ (TellsLetGo from u intents i n e found over sent) = refl

told_plain : (root : Uid) (ack : Bool) (ends : List (Uid × End)) (ns : List ℕ) → ArePlain (tell_all root ack ends ns)
told_plain root ack ends [] = tt
told_plain root ack ends (n ∷ ns) = (refl, told_plain root ack ends ns)

tolds_plain : (telling : List (Uid × Intent)) → ArePlain (tolds_again telling)
tolds_plain telling = all_flat Plain (λ (e : Uid × Intent). tell_all e.1.root true ((e.0, ending.Commit) ∷ []) e.1.nodes) telling
    (λ e. told_plain e.1.root true ((e.0, ending.Commit) ∷ []) e.1.nodes)

asked_plain : (p : Path) (req : ℕ) (as_asked : List (ℕ × Ask)) (c : Coord) → ArePlain (asks_all p req as_asked c).outs
asked_plain p req [] c = tt
asked_plain p req (a ∷ rest) c = (requests (record { path = p; req = req }) a.1, asked_plain p req rest (asks_node p req a c).part)

tick_plain : (k : ℕ) (d : Disk) (t : Parts) → ArePlain (tick_outs (record { number = k; disk = d; live = Some t }) t)
tick_plain k d t = all_append Plain ((again_all t.coord.doings t.coord).outs ++ tolds_again t.coord.telling) (map query_about (holders d t))
    (all_append Plain (again_all t.coord.doings t.coord).outs (tolds_again t.coord.telling) (again t.coord.doings t.coord)
    (tolds_plain t.coord.telling)) (all_map Plain query_about (holders d t) (λ u. refl))
  where
    now : (c : Coord) (n : Now) → ArePlain (again_now c n).outs
    now c Idle = tt
    now c (Calling s) = (requests (record { path = s.path; req = s.req }) (next_ask (ends_of (root_of s.path) c.tree) s), tt)
    now c (Committing m) = asked_plain (plan_of m).path (plan_of m).req (waiting m) c

    again : (ds : List Doing) (c : Coord) → ArePlain (again_all ds c).outs
    again [] c = tt
    again (z ∷ ds) c = all_append Plain (again_now c z.now).outs (again_all ds (again_now c z.now).part).outs (now c z.now)
        (again ds (again_now c z.now).part)

query_plain : (from : ℕ) (u : Uid) (intents : List (Uid × Intent)) (c : Coord) → ArePlain (answer_query from u intents c)
query_plain from u intents c = by (is_open u c.tree || is_deferred u intents from)
  where
    decided_so : (b : Bool) → ArePlain (cond b (tell (root_or_self u (branch_of u c.tree)) false ((u, ending.Commit) ∷ []) from ∷ [])
        (tell (root_or_self u (branch_of u c.tree)) false ((u, ending.Abort) ∷ []) from ∷ []))
    decided_so true = (refl, tt)
    decided_so false = (refl, tt)

    listed : (i : Intent) (b : Bool) → ArePlain (cond b (tell i.root true ((u, ending.Commit) ∷ []) from ∷ []) (answer_decided from u c))
    listed i true = (refl, tt)
    listed i false = decided_so (is_kept_commit from u c)

    recorded : (o : Option Intent) → ArePlain (answer_recorded from u c o)
    recorded None = decided_so (is_kept_commit from u c)
    recorded (Some i) = listed i (has i.nodes from)

    by : (b : Bool) → ArePlain (cond b [] (answer_recorded from u c (at_uid u intents)))
    by true = tt
    by false = recorded (at_uid u intents)

plain_message : (z : Message) → IsPlain z → greets z ≡ false
plain_message (message.Acked m) is = refl
plain_message (message.Query m) is = refl
plain_message z is = absurd is

parts_plain : (from : ℕ) (q : Option (Head × Ask)) (outs : List Effect) → AreSentTo from q outs → ArePlain outs
parts_plain from q [] sent = tt
parts_plain from q (Say b ∷ es) sent = (tt, parts_plain from q es (λ to z i. sent to z (inr i)))
parts_plain from q (Do w ∷ es) sent = (tt, parts_plain from q es (λ to z i. sent to z (inr i)))
parts_plain from None (Send to m ∷ es) sent =
    (plain_message m (sent to m (inl refl)), parts_plain from None es (λ n z i. sent n z (inr i)))
parts_plain from (Some q) (Send to m ∷ es) sent = (
  (let s = sent to m (inl refl) in let a = s.1 in ap greets a.1 ∙ responses (asked_by q.0) a.0),
  parts_plain from (Some q) es (λ n z i. sent n z (inr i)),
)

message_plain : (k : ℕ) (d : Disk) (t v : Parts) (from : ℕ) (m : Message) (outs : List Effect) → handle k d t from m ≡ Took v outs →
    ArePlain outs
message_plain k d t v from m outs is = by (coord_case k d t v from m outs is)
  where
    by : CoordCase d t from m v outs → ArePlain outs
    by (cases.OfParts mine same plain sent_to) = parts_plain from (asks m) outs sent_to
    by (cases.Asks u query same outs_are) = subst ArePlain outs_are (query_plain from u d.intents t.coord)
    by (cases.Heard a r some same outs_are) = subst ArePlain outs_are (trace_plain (heard_trace t.coord from a r d.intents))
    by (cases.Acks u which same outs_are) = subst ArePlain outs_are (trace_plain (acked_trace t.coord from u d.intents))

-- ---- along effects

or_none : (a b : Bool) → a || b ≡ false → a ≡ false
or_none true b is = absurd (cc is)
or_none false b is = refl

or_first : (a b : Bool) → a ≡ true → a || b ≡ true
or_first true b is = refl
or_first false b is = absurd (cc is)

more_lines : (lines more : List Line) → has_up (lines ++ more) ≡ false → has_up lines ≡ false
more_lines lines more none = or_none (has_up lines) (has_up more) (sym (list_any-append (λ (l : Line). is_up l.body) lines more) ∙ none)

still_up : (lines more : List Line) → has_up lines ≡ true → has_up (lines ++ more) ≡ true
still_up lines more is = list_any-append (λ (l : Line). is_up l.body) lines more ∙ or_first (has_up lines) (has_up more) is

said_so : (e : ℕ) (bs : List Body) (M : Seen) → GreetsUp M → GreetsUp (said e bs M)
said_so e bs M h none = h (more_lines M.lines (numbered e bs) none)

walk : (e k : ℕ) (outs : List Effect) (v : Parts) (d : Disk) (M : Seen) → ArePlain outs → GreetsUp M →
    Walks GreetsUp e k outs (Up GreetsUp k v) d M
walk e k [] v d M plain h = h
walk e k (Do w ∷ es) v d M plain h = (λ how. said_so e (body.Halted k ∷ []) M h, walk e k es v (worked w d) M plain.1 h)
walk e k (Say b ∷ es) v d M plain h = walk e k es v d (said e (b ∷ []) M) plain.1 (said_so e (b ∷ []) M h)
walk e k (Send to m ∷ es) v d M plain h = λ more quiet. walk e k es v d (said e more (posted (record { from = k; to = to; message = m }) M))
    plain.1 (λ none p there. ⊎_elim (λ same. ap (λ (q : Post). greets q.message) (sym same) ∙ plain.0)
    (λ old. h (more_lines M.lines (numbered e more) none) p old) there)

-- once a line says so
walk_up : (e k : ℕ) (outs : List Effect) (v : Parts) (d : Disk) (M : Seen) → has_up M.lines ≡ true →
    Walks GreetsUp e k outs (Up GreetsUp k v) d M
walk_up e k [] v d M is = never M is
  where
    never : (M : Seen) → has_up M.lines ≡ true → GreetsUp M
    never M is none = let no_way : true ≡ false = sym is ∙ none in absurd (cc no_way)
walk_up e k (Do w ∷ es) v d M is = (
  λ how none. (let no_way : true ≡ false = sym (still_up M.lines (numbered e (body.Halted k ∷ [])) is) ∙ none in absurd (cc no_way)),
  walk_up e k es v (worked w d) M is,
)
walk_up e k (Say b ∷ es) v d M is = walk_up e k es v d (said e (b ∷ []) M) (still_up M.lines (numbered e (b ∷ [])) is)
walk_up e k (Send to m ∷ es) v d M is = λ more quiet. walk_up e k es v d
    (said e more (posted (record { from = k; to = to; message = m }) M)) (still_up M.lines (numbered e more) is)

pub greeted_keep : (hd : Header) → Keeps hd GreetsUp
greeted_keep hd = record {
  quiet = λ e bs M quiet h. said_so e bs M h;
  stop = λ e k d live M h. said_so e (body.Halted k ∷ []) M h;
  message = λ e k d t v from m outs M h there meant is. walk e k outs v d M (message_plain k d t v from m outs is) h;
  act = λ e k d t i M is none h. let did = acts i d.intents t.coord in
      walk e k did.outs (with_coord t did.part) d M (trace_plain (acts_trace t.coord i d.intents)) h;
  begin = λ e k d t l how parent M new may none h. let did = begin_action l how parent (parent_of parent t.coord) t.coord in
      walk e k did.outs (with_coord t did.part) d (given l (record { node = k; serial = is_serial how }) M) (tt, tt) h;
  tick = λ e k d t M h. walk e k (tick_outs (record { number = k; disk = d; live = Some t }) t)
      (with_coord t (again_all t.coord.doings t.coord).part) d M (tick_plain k d t) h;
  restart = λ e k d M h. (
    λ how. said_so e (body.Halted k ∷ []) M h,
    (
      λ how. said_so e (body.Halted k ∷ []) M h,
      walk_up e k (rest_of hd k d) (parts_in k (d.inc + 1) d) (record d { inc = d.inc + 1 }) (said e (body.Up k (d.inc + 1) ∷ []) M)
          (last_up M.lines e k (d.inc + 1)),
    ),
  );
  first = λ st formed none p there. absurd there;
}
  where
    rest_of : Header → ℕ → Disk → List Effect
    rest_of hd k d = Do Look ∷ naming_back (naming_at k (d.inc + 1) d.names)
        ++ Do Look ∷ recovered_records k d.intents
        ++ tolds_again d.intents
        ++ map query_about (uid_set (prepared_actions d.store ++ prepared_actions d.names))
        ++ map (hello_to k (d.inc + 1)) (without_number k (numbers_to hd.nodes))

    last_up : (lines : List Line) (e k i : ℕ) → has_up (lines ++ numbered e (body.Up k i ∷ [])) ≡ true
    last_up lines e k i = list_any-append (λ (l : Line). is_up l.body) lines (numbered e (body.Up k i ∷ [])) ∙ or_true (has_up lines)
      where
        or_true : (b : Bool) → b || true ≡ true
        or_true true = refl
        or_true false = refl
