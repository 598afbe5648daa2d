-- One message at a node: naming goes on, what is answered claims what passes then, and entries are prepared of what was confirmed.
use Rattle.arj_law_parts.proofs.Words
use Words.{◌≡◌, ◌∙◌, ◌≤◌, ◌<◌, ◌+◌, ◌*◌, ◌==◌, ◌||◌, ℕ, Bool, true, false, cond, not, List, [], ◌∷◌, ◌++◌, map, filter, refl, sym, ap}
use Words.{subst, arith, Option, Some, None, ⊤, IfSome, is_some, option_map, AllByRecursion, list_all, and_parts, Ask, Asked, Binding}
use Words.{BoundReply, End, Head, Message, ObjectState, Path, RecordedReply, Uid, asks, object, Reply, actor, answers, asked_by, last_end}
use Words.{response, top_of, heard, Grants, Marks, confirm, Coord, Abort, Already, Commit, Disk, Do, Effect, InDoubt, Look, Old, Pair, Prep}
use Words.{Prepare, PutInc, PutIntent, Ready, RemoveIntent, Say, Send, Served, held_at, holder_of, is_prepared, prepare_answer, reply, void}
use Words.{acked, answer_query, Named, note_named, Naming, is_over, on_named, Handled, Parts, Took, Void, ack_told, by_reply, coord_heard}
use Words.{end_states, handle, handle_answer, handle_ask, handle_ends, handle_other, holders, if_naming, is_earlier, load_by, load_held}
use Words.{naming_hello, naming_told, prepare_by, query_about, sends_answer, serve, store_told, with_coord, with_naming, with_server}
use Words.{at_number, binding_number, AreAll, is_naming_effect, activate_own, confirm_own, ends_own, invoke_own, vote_own, Post}
use Words.list
use Words.ask
use Words.body
use Words.ending
use Words.loaded
use Words.message
use Words.prepared
use Words.recorded
use Words.role
use Words.what
use Words.naming
use Words.server
use Rattle.arj_law_lock_view.proofs.Terms
use Terms.{Action, AreBegun, FitsAsk, FitsAsked, FitsMessage, IsAsker, reads_back, some_is, HoldsObjects, IsAnswer, IsRecord, SaysBound}
use Terms.{SaysNoted, SaysReply, WasConfirmed, PassesBefore, PassesNaming, Tests}
use Rattle.arj_law_lock_view.proofs.facts.GoodNaming.{held_objects}
use Rattle.arj_law_lock_view.proofs.records
use records.Ends.{AllPrepare, IsPrepared, confirm_so, hello_grows, told_grows}
use records.Namings.{AllBelow, Grows, ListsPass, bind_counts, bind_grows, bind_says, none_not, note_grows, same_grows}
use records.Quiet.{AllQuiet, AllSaid, IncsUp, NoWorks, bind_quiet, bind_said, note_quiet, queries, quiet_both, quiet_incs, said_sent}
use records.Quiet.{server_quiet, told_quiet}
use Rattle.arj_law_parts.specs.moves.Seen.{In}

-- ---- down

-- what passes for all before the next incarnation passes for naming
pub down_passes : (T : Tests) (acts : List Action) (n : Naming) (inc : ℕ) → n.inc ≡ inc → n.count < 4294967296 → HoldsObjects acts n →
    PassesBefore T (inc + 1) → PassesNaming T n
down_passes T acts n inc same few holds before = record {
  made = λ v le. before.made v (below v n.inc inc n.count same few le);
  objects = λ x o at. record {
    recorded = λ b v is le. let g = holds.objects x o at in let q = g.recorded b is in
        before.past x v (below_counted v b.inc b.count n.inc inc n.count q.0 q.1 same few le);
    asked = λ u on. before.asked x u n.inc (under n.inc inc same);
  };
}
  where
    below : (v i j c : ℕ) → i ≡ j → c < 4294967296 → v ≤ i * 4294967296 + c → v < (j + 1) * 4294967296
    below v i j c e lt le = omega (arith, e, lt, le)

    below_counted : (v bi bc i j c : ℕ) → bi ≡ i → bc ≤ c → i ≡ j → c < 4294967296 → v ≤ bi * 4294967296 + bc → v < (j + 1) * 4294967296
    below_counted v bi bc i j c a b e lt le = omega (arith, a, b, e, lt, le)

    under : (i j : ℕ) → i ≡ j → i < j + 1
    under i j e = omega (arith, e)

note_counts : (p : Path) (x : ℕ) (b : Binding) (i g : ℕ) (n : Naming) →
    (let s = naming.note p x b i g n in let m = s.part in m.count) ≡ n.count
note_counts p x b i g n = by (is_over p n || not (is_some (at_number x n.objects))) (g == n.inc)
  where
    there : (q : Option Named) → (let s = on_named x (note_named x (top_of p) b i) n q in let m = s.part in m.count) ≡ n.count
    there None = refl
    there (Some o) = refl

    by : (a c : Bool) → (let s = cond {A = Served Naming RecordedReply} a (void n) (cond {A = Served Naming RecordedReply} c
        (on_named x (note_named x (top_of p) b i) n (at_number x n.objects)) (reply n (recorded.Changed (what.Inc g n.inc)))) in
        let m = s.part in m.count) ≡ n.count
    by true c = refl
    by false true = there (at_number x n.objects)
    by false false = refl

-- and so for what entries list
pub before_lists : (T : Tests) (d : Pair) (n : Naming) (inc : ℕ) → n.inc ≡ inc → n.count < 4294967296 → PassesBefore T (inc + 1) →
    ListsPass T d n
before_lists T d n inc same few before x v s le on = before.listed x v s (below v n.inc inc n.count same few le)
  where
    below : (v i j c : ℕ) → i ≡ j → c < 4294967296 → v ≤ i * 4294967296 + c → v < (j + 1) * 4294967296
    below v i j c e lt le = omega (arith, e, lt, le)

-- ---- one message

-- naming, before and after
abbrev pub NamingGoes : Option Naming → Option Naming → Type 0
NamingGoes None None = ⊤
NamingGoes (Some n) (Some m) = Grows n m
NamingGoes _ _ = ⊥

pub same_goes : (o : Option Naming) → NamingGoes o o
same_goes None = tt
same_goes (Some n) = same_grows n

module _ (sent : List Post) (k : ℕ) where
  -- an answer that is sent claims so, and entries that are prepared were confirmed
  abbrev pub Claims : Tests → Effect → Type 0
  Claims T (Send to m) = (a : Asked) (r : Reply) → answers m ≡ Some (a, r) → IsAnswer T sent (record { from = k; to = to; message = m }) a r
  Claims T _ = ⊤

  abbrev pub AllClaim : Tests → List Effect → Type 0
  AllClaim T outs = AllByRecursion (Claims T) outs

  abbrev pub Confirms : Effect → Type 0
  Confirms (Do (Prepare role.Names u states)) = (s : ObjectState) → list.In s states → WasConfirmed sent u (let v = s.uid in v.num)
  Confirms _ = ⊤

  abbrev pub AllConfirm : List Effect → Type 0
  AllConfirm outs = AllByRecursion Confirms outs

  claim_both : (T : Tests) (es fs : List Effect) → AllClaim T es → AllClaim T fs → AllClaim T (es ++ fs)
  claim_both T [] fs a b = b
  claim_both T (e ∷ es) fs a b = (a.0, claim_both T es fs a.1 b)

  confirm_both : (es fs : List Effect) → AllConfirm es → AllConfirm fs → AllConfirm (es ++ fs)
  confirm_both [] fs a b = b
  confirm_both (e ∷ es) fs a b = (a.0, confirm_both es fs a.1 b)

  pub quiet_claims : (T : Tests) (outs : List Effect) → AllQuiet outs → AllClaim T outs
  quiet_claims T [] q = tt
  quiet_claims T (Send to m ∷ es) q = ((λ a r is. none_not (sym q.0 ∙ is)), quiet_claims T es q.1)
  quiet_claims T (Say b ∷ es) q = (tt, quiet_claims T es q.1)
  quiet_claims T (Do w ∷ es) q = (tt, quiet_claims T es q.1)

  pub quiet_confirms : (outs : List Effect) → AllQuiet outs → AllConfirm outs
  quiet_confirms [] q = tt
  quiet_confirms (Send to m ∷ es) q = (tt, quiet_confirms es q.1)
  quiet_confirms (Say b ∷ es) q = (tt, quiet_confirms es q.1)
  quiet_confirms (Do (Prepare role.Names u states) ∷ es) q = absurd q.0
  quiet_confirms (Do (Prepare role.Store u states) ∷ es) q = (tt, quiet_confirms es q.1)
  quiet_confirms (Do Look ∷ es) q = (tt, quiet_confirms es q.1)
  quiet_confirms (Do (PutInc i) ∷ es) q = (tt, quiet_confirms es q.1)
  quiet_confirms (Do (Commit r u) ∷ es) q = (tt, quiet_confirms es q.1)
  quiet_confirms (Do (Abort r u) ∷ es) q = (tt, quiet_confirms es q.1)
  quiet_confirms (Do (PutIntent u i) ∷ es) q = (tt, quiet_confirms es q.1)
  quiet_confirms (Do (RemoveIntent u) ∷ es) q = (tt, quiet_confirms es q.1)

-- What a handler leaves. Where it does nothing on the disk, its answers claim what passes for the entries there.
pub record Left (sent : List Post) (k : ℕ) (d : Disk) (t v : Parts) (outs : List Effect) : Type 0 where
  pub naming : NamingGoes t.naming v.naming
  pub up : (T : Tests) → ((n : Naming) → t.naming ≡ Some n → T.low d.inc ≡ true) →
      ((n : Naming) → v.naming ≡ Some n → PassesNaming T n × (NoWorks outs → ListsPass T d.names n)) → AllClaim sent k T outs
  pub down : (T : Tests) → ((n : Naming) → t.naming ≡ Some n → T.low d.inc ≡ true) →
      ((n : Naming) → t.naming ≡ Some n → PassesBefore T (d.inc + 1)) → AllClaim sent k T outs
  pub entries : AllConfirm sent k outs
  pub incs : IncsUp d.inc outs

pub quiet_left : (sent : List Post) (k : ℕ) (d : Disk) (t v : Parts) (outs : List Effect) → NamingGoes t.naming v.naming → AllQuiet outs →
    Left sent k d t v outs
quiet_left sent k d t v outs goes quiet = record {
  naming = goes;
  up = λ T low passes. quiet_claims sent k T outs quiet;
  down = λ T low before. quiet_claims sent k T outs quiet;
  entries = quiet_confirms sent k outs quiet;
  incs = quiet_incs d.inc outs quiet;
}

incs_both : (least : ℕ) (es fs : List Effect) → IncsUp least es → IncsUp least fs → IncsUp least (es ++ fs)
incs_both least [] fs a b = b
incs_both least (e ∷ es) fs a b = (a.0, incs_both least es fs a.1 b)

module _ (acts : List Action) (begun : AreBegun acts) (sent : List Post) (k : ℕ) (d : Disk) (t : Parts) (from : ℕ) (m : Message)
    (there : In (record { from = from; to = k; message = m }) sent)
    (holds : (n : Naming) → t.naming ≡ Some n → HoldsObjects acts n) (below : (n : Naming) → t.naming ≡ Some n → AllBelow n)
    (inc_is : (n : Naming) → t.naming ≡ Some n → n.inc ≡ d.inc) (few : (n : Naming) → t.naming ≡ Some n → n.count + 1 < 4294967296)
    (avoids : (h : Head) (x : ℕ) (include : Bool) (avoid : Binding) → asks m ≡ Some (h, ask.Bind x include avoid) → (n : Naming) →
    t.naming ≡ Some n → binding_number avoid ≤ binding_number (record { inc = n.inc; count = n.count }))
    (lates : (n : Naming) → t.naming ≡ Some n → (top : Uid) (x : ℕ) (b : Binding) (g : ℕ) → IsRecord sent top x b g → g ≤ d.inc)
    (tops : (h : Head) (grants : Grants) (ex inc : Marks) → asks m ≡ Some (h, ask.Confirm grants ex inc) →
    actor h.path ≡ top_of h.path) where
  abbrev By : Handled → Type 0
  By (Void outs) = ⊤
  By (Took v outs) = Left sent k d t v outs

  quiet_leaves : (v : Parts) (outs : List Effect) → NamingGoes t.naming v.naming → AllQuiet outs → Left sent k d t v outs
  quiet_leaves v outs goes quiet = quiet_left sent k d t v outs goes quiet

  module _ (h : Head) (a : Ask) (asking : asks m ≡ Some (h, a)) where
    one_claim : (T : Tests) (r : Reply) → SaysReply T (top_of h.path) a r → Claims sent k T (Send from (response (asked_by h) r))
    one_claim T r says b q is =
        let same = some_is (sym (reads_back (asked_by h) r) ∙ is) in
        record {
          post = record { from = from; to = k; message = m };
          head = h;
          ask = a;
          posted = there;
          from = refl;
          asking = asking;
          asker = ap (λ (z : Asked × Reply). z.0) same;
          so = subst (SaysReply T (top_of h.path) a) (ap (λ (z : Asked × Reply). z.1) same) says;
        }

    answered : (v : Parts) (outs : List Effect) (o : Option Reply) → NamingGoes t.naming v.naming → ((T : Tests) → AllClaim sent k T outs) →
        AllConfirm sent k outs → IncsUp d.inc outs
        → ((T : Tests) → ((n : Naming) → t.naming ≡ Some n → T.low d.inc ≡ true) → ((n : Naming) → v.naming ≡ Some n →
        PassesNaming T n × (AllSaid outs → ListsPass T d.names n)) → (r : Reply) → o ≡ Some r → SaysReply T (top_of h.path) a r)
        → ((T : Tests) → ((n : Naming) → t.naming ≡ Some n → T.low d.inc ≡ true) → ((n : Naming) → t.naming ≡ Some n →
        PassesBefore T (d.inc + 1)) → (r : Reply) → o ≡ Some r → SaysReply T (top_of h.path) a r) → By (sends_answer from h v outs o)
    answered v outs None goes claims entries incs up down = tt
    answered v outs (Some r) goes claims entries incs up down = record {
      naming = goes;
      up = λ T low passes. claim_both sent k T outs (Send from (response (asked_by h) r) ∷ []) (claims T) (
        one_claim T r
            (up T low (λ n at. ((passes n at).0, λ said. (passes n at).1 (said_sent outs from (response (asked_by h) r) said))) r refl),
        tt,
      );
      down = λ T low before.
          claim_both sent k T outs (Send from (response (asked_by h) r) ∷ []) (claims T) (one_claim T r (down T low before r refl), tt);
      entries = confirm_both sent k outs (Send from (response (asked_by h) r) ∷ []) entries (tt, tt);
      incs = incs_both d.inc outs (Send from (response (asked_by h) r) ∷ []) incs (tt, tt);
    }

    -- where nothing is claimed
    unclaimed : ((T : Tests) (r : Reply) → SaysReply T (top_of h.path) a r) → (v : Parts) (outs : List Effect) (o : Option Reply) →
        NamingGoes t.naming v.naming → AllQuiet outs → By (sends_answer from h v outs o)
    unclaimed says v outs o goes quiet = answered v outs o goes (λ T. quiet_claims sent k T outs quiet) (quiet_confirms sent k outs quiet)
        (quiet_incs d.inc outs quiet) (λ T low passes r is. says T r) (λ T low before r is. says T r)

  with_it : (f : Naming → Handled) (o : Option Naming) → ((n : Naming) → o ≡ Some n → By (f n)) → By (if_naming f o)
  with_it f None each = tt
  with_it f (Some n) each = each n refl

  goes_to : (n p : Naming) → t.naming ≡ Some n → Grows n p → NamingGoes t.naming (Some p)
  goes_to n p at grows = subst (λ o. NamingGoes o (Some p)) (sym at) grows

  under : (a b : ℕ) → a ≡ b → a < 4294967296 → b < 4294967296
  under a b same lt = omega (arith, same, lt)

  less : (a b : ℕ) → a ≤ b → b < 4294967296 → a < 4294967296
  less a b le lt = omega (arith, le, lt)

  fewer : (a b : ℕ) → a ≡ b → b + 1 < 4294967296 → a < 4294967296
  fewer a b same lt = omega (arith, same, lt)

  asked : (h : Head) (a : Ask) → asks m ≡ Some (h, a) → IsAsker acts h.path → By (serve k d t from h a)
  asked h (ask.Bind x include avoid) is who = with_it _ t.naming (λ n at.
      let s = naming.bind h.path x include avoid d.names n in
      let g = bind_grows h.path x include avoid d.names n in
      let quiet = bind_quiet h.path x include avoid d.names n in
      let its = (held_objects.binds acts begun h.path who x include avoid d.names n (holds n at)).0 in
      answered h (ask.Bind x include avoid) is (with_naming t s.part) s.outs (option_map Reply.Bound s.reply) (goes_to n s.part at g.0)
      (λ T. quiet_claims sent k T s.outs quiet) (quiet_confirms sent k s.outs quiet) (quiet_incs d.inc s.outs quiet)
      (λ T low passes r of. bound T s.reply (bind_says T acts h.path x include avoid d.names n (holds n at)
      (subst (λ i. T.low i ≡ true) (sym (inc_is n at)) (low n at)) (avoids h x include avoid is n at) (passes s.part refl).0
      ((passes s.part refl).1 (bind_said h.path x include avoid d.names n))) r of)
      (λ T low before r of. bound T s.reply
      (bind_says T acts h.path x include avoid d.names n (holds n at) (subst (λ i. T.low i ≡ true) (sym (inc_is n at)) (low n at))
      (avoids h x include avoid is n at) (down_passes T acts s.part d.inc (g.0.inc ∙ inc_is n at) (less s.part.count (n.count + 1)
      (bind_counts h.path x include avoid d.names n) (few n at)) its (before n at)) (before_lists T d.names s.part d.inc (g.0.inc
      ∙ inc_is n at) (less s.part.count (n.count + 1) (bind_counts h.path x include avoid d.names n) (few n at)) (before n at))) r of))
    where
      bound : (T : Tests) (o : Option BoundReply) → IfSome o (SaysBound T x avoid (top_of h.path)) → (r : Reply) →
          option_map Reply.Bound o ≡ Some r → SaysReply T (top_of h.path) (ask.Bind x include avoid) r
      bound T None so r of = none_not of
      bound T (Some b) so r of = subst (SaysReply T (top_of h.path) (ask.Bind x include avoid)) (some_is of) so
  asked h (ask.Load x) is who = load (holder_of (object x) d.store)
    where
      held_so : (s : Option ObjectState) → By (load_held from h t s)
      held_so None = tt
      held_so (Some s) =
          unclaimed h (ask.Load x) is (λ T r. tt) t (Do Look ∷ []) (Some (Reply.Loaded (loaded.State s))) (same_goes t.naming) (tt, tt)

      load : (o : Option Uid) → By (load_by x d.store from h t o)
      load (Some u) = unclaimed h (ask.Load x) is (λ T r. tt) t [] (Some (Reply.Loaded (loaded.InDoubt u))) (same_goes t.naming) tt
      load None = held_so (held_at (object x) d.store)
  asked h (ask.Activate b st) is who = let r = server.activate k h.path b st t.server in
      unclaimed h (ask.Activate b st) is (λ T r. tt) (with_server t r.part) r.outs (option_map Reply.Activated r.reply) (same_goes t.naming)
      (server_quiet k r.outs (activate_own k h.path b st t.server))
  asked h (ask.Record x b i g) is who = with_it _ t.naming (λ n at.
      let s = naming.note h.path x b i g n in
      let quiet = note_quiet h.path x b i g n in
      let grows = (note_grows none_tests acts begun h.path who x b i g n (holds n at) (below n at)).0 in
      let its = (held_objects.notes acts begun h.path who x b i g n (holds n at)).0 in
      answered h (ask.Record x b i g) is (with_naming t s.part) s.outs (option_map Reply.Noted s.reply) (goes_to n s.part at grows)
      (λ T. quiet_claims sent k T s.outs quiet) (quiet_confirms sent k s.outs quiet) (quiet_incs d.inc s.outs quiet)
      (λ T low passes r of.
      noted T s.reply ((note_grows T acts begun h.path who x b i g n (holds n at) (below n at)).2 (passes s.part refl).0) r of)
      (λ T low before r of.
      noted T s.reply ((note_grows T acts begun h.path who x b i g n (holds n at) (below n at)).2 (down_passes T acts s.part d.inc
      (grows.inc ∙ inc_is n at) (fewer s.part.count n.count (note_counts h.path x b i g n) (few n at)) its (before n at))) r of))
    where
      none_tests : Tests
      none_tests = record { made = λ v. true; past = λ x v. true; asked = λ x u i. true; low = λ i. true; listed = λ x v s. true }

      noted : (T : Tests) (o : Option RecordedReply) → IfSome o (SaysNoted T x b) → (r : Reply) → option_map Reply.Noted o ≡ Some r →
          SaysReply T (top_of h.path) (ask.Record x b i g) r
      noted T None so r of = none_not of
      noted T (Some q) so r of = subst (SaysReply T (top_of h.path) (ask.Record x b i g)) (some_is of) so
  asked h (ask.Invoke x b i ends o) is who = let r = server.invoke k h x b i ends o t.server in
      unclaimed h (ask.Invoke x b i ends o) is (λ T r. tt) (with_server t r.part) r.outs (option_map Reply.Invoked r.reply)
      (same_goes t.naming) (server_quiet k r.outs (invoke_own k h x b i ends o t.server))
  asked h (ask.Vote i ties ends) is who = let r = server.vote k h.path i ties ends t.server in
      unclaimed h (ask.Vote i ties ends) is (λ T r. tt) (with_server t r.part) r.outs (option_map Reply.Voted r.reply) (same_goes t.naming)
      (server_quiet k r.outs (vote_own k h.path i ties ends t.server))
  asked h (ask.Prepare states) is who = each (is_prepared (actor h.path) d.store)
    where
      new : (a : Prep) → By (prepare_by k states from h t a)
      new Ready = unclaimed h (ask.Prepare states) is (λ T r. tt) t (Do Look ∷ Do (Prepare role.Store (actor h.path) states) ∷ Say
          (body.Prepared k (actor h.path) role.Store) ∷ []) (Some (Reply.Prepared prepared.Yes)) (same_goes t.naming) (tt, (tt, (tt, tt)))
      new (Already u) = tt
      new (Old u v) = unclaimed h (ask.Prepare states) is (λ T r. tt) t (Do Look ∷ []) (Some (Reply.Prepared (prepared.Old u.num v)))
          (same_goes t.naming) (tt, tt)
      new (InDoubt u holder) = unclaimed h (ask.Prepare states) is (λ T r. tt) t (Do Look ∷ [])
          (Some (Reply.Prepared (prepared.InDoubt u.num holder))) (same_goes t.naming) (tt, tt)

      each : (b : Bool) → By (cond b (sends_answer from h t [] (Some (Reply.Prepared prepared.Yes)))
          (prepare_by k states from h t (prepare_answer (actor h.path) states d.store)))
      each true = unclaimed h (ask.Prepare states) is (λ T r. tt) t [] (Some (Reply.Prepared prepared.Yes)) (same_goes t.naming) tt
      each false = new (prepare_answer (actor h.path) states d.store)
  asked h (ask.Confirm grants excluded included) is who = with_it _ t.naming (λ n at.
      let s = confirm h.path grants excluded included d.names n in
      let so = confirm_so h.path grants excluded included d.names n in
      answered h (ask.Confirm grants excluded included) is (with_naming t s.part) s.outs (option_map Reply.Confirmed s.reply)
      (goes_to n s.part at so.grows) (λ T. naming_claims T s.outs (confirm_own h.path grants excluded included d.names n))
      (prepares n at s.outs so.prepares) (naming_incs s.outs (confirm_own h.path grants excluded included d.names n))
      (λ T low passes r of. tt) (λ T low before r of. tt))
    where
      naming_claims : (T : Tests) (es : List Effect) → AreAll is_naming_effect es → AllClaim sent k T es
      naming_claims T [] own = tt
      naming_claims T (Say b ∷ es) own =
          (tt, naming_claims T es (and_parts (is_naming_effect (Say b)) (list_all is_naming_effect es) own).1)
      naming_claims T (Send to n ∷ es) own = absurd (cc own)
      naming_claims T (Do w ∷ es) own = (tt, naming_claims T es (and_parts (is_naming_effect (Do w)) (list_all is_naming_effect es) own).1)

      naming_incs : (es : List Effect) → AreAll is_naming_effect es → IncsUp d.inc es
      naming_incs [] own = tt
      naming_incs (Say b ∷ es) own = (tt, naming_incs es (and_parts (is_naming_effect (Say b)) (list_all is_naming_effect es) own).1)
      naming_incs (Send to n ∷ es) own = absurd (cc own)
      naming_incs (Do (PutInc i) ∷ es) own = absurd (cc own)
      naming_incs (Do Look ∷ es) own = (tt, naming_incs es own)
      naming_incs (Do (Prepare r u states) ∷ es) own =
          (tt, naming_incs es (and_parts (is_naming_effect (Do (Prepare r u states))) (list_all is_naming_effect es) own).1)
      naming_incs (Do (Commit r u) ∷ es) own =
          (tt, naming_incs es (and_parts (is_naming_effect (Do (Commit r u))) (list_all is_naming_effect es) own).1)
      naming_incs (Do (Abort r u) ∷ es) own =
          (tt, naming_incs es (and_parts (is_naming_effect (Do (Abort r u))) (list_all is_naming_effect es) own).1)
      naming_incs (Do (PutIntent u i) ∷ es) own = absurd (cc own)
      naming_incs (Do (RemoveIntent u) ∷ es) own = absurd (cc own)

      prepares : (n : Naming) → t.naming ≡ Some n → (es : List Effect) → AllPrepare n.inc (top_of h.path) grants excluded included es →
          AllConfirm sent k es
      prepares n at [] all = tt
      prepares n at (Send to q ∷ es) all = (tt, prepares n at es all.1)
      prepares n at (Say b ∷ es) all = (tt, prepares n at es all.1)
      prepares n at (Do (Prepare role.Names u states) ∷ es) all =
          ((λ s i. subst (λ v. WasConfirmed sent v s.uid.num) (sym all.0.0) (was s (all.0.1 s i))), prepares n at es all.1)
        where
          was : (s : ObjectState) → IsPrepared n.inc grants excluded included s → WasConfirmed sent (top_of h.path) s.uid.num
          was s its = record {
            grants = grants;
            excluded = excluded;
            included = included;
            confirm = record {
              post = record { from = from; to = k; message = m };
              head = h;
              posted = there;
              asking = is;
              top_is = refl;
              actor_is = tops h grants excluded included is;
            };
            marked = its.marks;
            inc = n.inc;
            one = its.one;
            late = λ b g r. subst (λ i. g ≤ i) (sym (inc_is n at)) (lates n at (top_of h.path) s.uid.num b g r);
          }
      prepares n at (Do (Prepare role.Store u states) ∷ es) all = (tt, prepares n at es all.1)
      prepares n at (Do Look ∷ es) all = (tt, prepares n at es all.1)
      prepares n at (Do (PutInc i) ∷ es) all = (tt, prepares n at es all.1)
      prepares n at (Do (Commit r u) ∷ es) all = (tt, prepares n at es all.1)
      prepares n at (Do (Abort r u) ∷ es) all = (tt, prepares n at es all.1)
      prepares n at (Do (PutIntent u i) ∷ es) all = (tt, prepares n at es all.1)
      prepares n at (Do (RemoveIntent u) ∷ es) all = (tt, prepares n at es all.1)

  asker : (h : Head) (a : Ask) → FitsAsk acts h a → IsAsker acts h.path
  asker h (ask.Bind x include avoid) fits = fits
  asker h (ask.Load x) fits = fits
  asker h (ask.Activate b st) fits = fits
  asker h (ask.Record x b i g) fits = fits
  asker h (ask.Invoke x b i ends o) fits = fits.0
  asker h (ask.Vote i ties ends) fits = fits.0
  asker h (ask.Prepare states) fits = fits
  asker h (ask.Confirm grants excluded included) fits = fits

  coord_left : (r : Served Coord (Unit {0})) → AllQuiet r.outs → By (coord_heard t r)
  coord_left r quiet = by r.reply
    where
      by : (o : Option (Unit {0})) → By (by_reply (with_coord t r.part) r.outs o)
      by None = tt
      by (Some u) = quiet_leaves (with_coord t r.part) r.outs (same_goes t.naming) quiet

  ends_left : (ack : Bool) (ends : List (Uid × End)) (o : Option (Uid × End)) → By (handle_ends k d t from ack ends o)
  ends_left ack ends None = quiet_leaves t [] (same_goes t.naming) tt
  ends_left ack ends (Some e) =
      let s = server.told k ends t.server in
      let o = naming_told e.0 e.1 d.names t.naming in
      let w = told_so t.naming holds in
      quiet_leaves (record t { server = s.part; naming = o.part })
      (store_told k e.0 e.1 d.store ++ o.outs ++ s.outs ++ ack_told from e.0 ack) w.0
      (quiet_both (store_told k e.0 e.1 d.store ++ o.outs ++ s.outs) (ack_told from e.0 ack)
      (quiet_both (store_told k e.0 e.1 d.store ++ o.outs) s.outs (quiet_both (store_told k e.0 e.1 d.store) o.outs
      (stored (is_prepared e.0 d.store) e.1) w.1) (server_quiet k s.outs (ends_own k ends t.server))) (acked_told ack))
    where
      told_so : (o : Option Naming) → ((n : Naming) → o ≡ Some n → HoldsObjects acts n) →
          NamingGoes o (naming_told e.0 e.1 d.names o).part × AllQuiet (naming_told e.0 e.1 d.names o).outs
      told_so None so = (tt, tt)
      told_so (Some q) so = ((told_grows acts e.0 e.1 d.names q (so q refl)).0, told_quiet e.0 e.1 d.names q)

      stored : (b : Bool) (how : End) → AllQuiet (cond b (end_states k e.0 how) [])
      stored false how = tt
      stored true ending.Commit = (tt, (tt, tt))
      stored true ending.Abort = (tt, (tt, tt))

      acked_told : (b : Bool) → AllQuiet (ack_told from e.0 b)
      acked_told true = (refl, tt)
      acked_told false = tt

  module _ (hears : (a : Asked) (r : Reply) → answers m ≡ Some (a, r) → AllQuiet (let q = heard from a r d.intents t.coord in q.outs))
      (acks : (u : Uid) → AllQuiet (let q = acked from u d.intents t.coord in q.outs)) (asked_about : (u : Uid) →
      AllQuiet (answer_query from u d.intents t.coord)) where
    other : (q : Message) → By (handle_other k d t from q)
    other (message.Told q) = ends_left q.ack q.ends (last_end q.ends)
    other (message.Acked q) = coord_left (acked from q.act d.intents t.coord) (acks q.act)
    other (message.Query q) = quiet_leaves t (answer_query from q.act d.intents t.coord) (same_goes t.naming) (asked_about q.act)
    other (message.Hello q) = quiet_leaves (record t { naming = naming_hello q.node q.inc t.naming }) (map query_about
        (filter (is_earlier q.node q.inc) (holders d t))) (by t.naming) (queries (filter (is_earlier q.node q.inc) (holders d t)))
      where
        by : (o : Option Naming) → NamingGoes o (naming_hello q.node q.inc o)
        by None = tt
        by (Some n) = (hello_grows q.node q.inc n).0
    other (message.Bind q) = tt
    other (message.Bound q) = tt
    other (message.Load q) = tt
    other (message.Loaded q) = tt
    other (message.Activate q) = tt
    other (message.Activated q) = tt
    other (message.RecordMsg q) = tt
    other (message.Recorded q) = tt
    other (message.Invoke q) = tt
    other (message.Invoked q) = tt
    other (message.Vote q) = tt
    other (message.Voted q) = tt
    other (message.Prepare q) = tt
    other (message.Prepared q) = tt
    other (message.Confirm q) = tt
    other (message.Confirmed q) = tt

    pub handled_so : FitsMessage acts m → By (handle k d t from m)
    handled_so fits = by (asks m) refl
      where
        answer : (o : Option (Asked × Reply)) → answers m ≡ o → By (handle_answer k d t from m o)
        answer None none = other m
        answer (Some a) is = coord_left (heard from a.0 a.1 d.intents t.coord) (hears a.0 a.1 is)

        by : (o : Option (Head × Ask)) → asks m ≡ o → By (handle_ask k d t from m o)
        by None none = answer (answers m) refl
        by (Some a) at = asked a.0 a.1 at (asker a.0 a.1 (subst (FitsAsked acts m) at fits))
