-- Each message that was sent can be spelled: where events are in form, and else but for what is left to say of it.
use Rattle.arj_law_parts.proofs.Words
use Words.{◌≡◌, ◌≤◌, ◌∙◌, arith, ℕ, List, length, Option, Some, None, AllByRecursion, refl, sym, ap, subst, false, true, Ask, Asked}
use Words.{Binding, BoundReply}
use Words.{ConfirmedReply, End, Head, Header, LoadedReply, Message, Op, PreparedReply, ObjectState, Uid, VotedReply, asks, Reply, answers}
use Words.{Node, Post}
use Words.{Seen, World, see, world_by, is_some, IsInForm, journal_by, Answer, InvokedReply}
use Words.ask
use Words.bound
use Words.confirmed
use Words.invoked
use Words.loaded
use Words.message
use Words.prepared
use Words.voted
use Rattle.arj_law_promise.proofs.Terms
use Terms.{HasObject, HeaderFits, Holds, In, IsGood, KeepsAsked, Own, all_each, asked_both, keeps_asked, moves_asked}
use Rattle.arj_class.specs.declared.op.Answer.TheVariants as answer
use Rattle.arj_law_disk_view.specs.running.States.{ReplyIsSo}
use Rattle.arj_law_parts.specs.parts.Incs.{SaysInc}
use Rattle.arj_law_promise.proofs.meant.Posts.{RequestsAre}
use Rattle.arj_law_promise.specs.meant.Meant.{AskFits}
use Rattle.arj_law_promise.proofs.rooms.Actions.{runs_say_actions}
use Rattle.arj_law_runs.proofs.coordinators.RunCoords.{few_ends}
use Rattle.arj_law_runs.proofs.journal.Paths.{IsNamed, paths_keep}
use Rattle.arj_law_runs.specs.journal.{Paths.IsAlike}
use Rattle.arj_promise.specs.Runs.{Run as RunOf}
use Rattle.arj_law_runs.specs.addresses.Addresses.{AnsweredOf, AreOf, AreSo, BoundOf, PostOf, IsNode as IsOfHeader}
use Rattle.arj_law_serial.proofs.joint.Starting.{start_stays}
use Rattle.arj_law_cause.proofs.spelled.Commits.{node_number, object_number, room}
use Rattle.arj_law_cause.proofs.spelled.Names.{NamesSo, few_stores, names_keep}
use Rattle.arj_law_cause.proofs.spelled.Replies.{Asks, ListsFew, RepliesFit, ReplyFits, replies_keep}
use Rattle.arj_law_cause.proofs.spelled.Requests.{AreShort, Known, requests_keep}
use Rattle.arj_law_cause.proofs.spelled.Operations.{ops_in_form}
use Rattle.arj_law_cause.proofs.spelled.Askers.{lines_have_uids}
use Rattle.arj_law_cause.proofs.spelled.Saves.{F, MessageSaves, Saved}
use Rattle.arj_law_cause.proofs.spelled.Saving.{FirstsRestore, IsReady, SavesWhere, firsts_restore, saves_keep}
use Rattle.arj_law_cause.proofs.spelled.Servers.{AnswerSays, InvokedSays}
use Rattle.arj_law_cause.proofs.spelled.Tolds.{ToldFew, ToldsFew, tolds_keep}
use Rattle.arj_law_cause.proofs.spelled.Votes.{IsVotedFew, VotesAreFew, votes_keep}
use Rattle.arj_law_cause.specs.spelled.Spelled.{AreSendable, AreSpelled, IsLeft, RunsInFormSpell, RunsSpell, VoteRestores}
use Rattle.arj_msg.specs.InForm.{AreFew, IsNode, IsObject}
use Rattle.arj_msg.specs.Sendable.{AnswerSends, BoundSends, ConfirmedSends, InvokedSends, IsSendable, LoadedSends, PreparedSends, StateSends}
use Rattle.arj_msg.specs.Sendable.{VotedSends}
use Rattle.arj_text.proofs.Values.{op_in_form}
use Rattle.arj_text.specs.Fields.{OpTextInForm}

module _ (hd : Header) (form : HeaderFits hd) where
  abbrev pub Short : Seen → Type 0
  Short M = Known hd form M × RequestsAre (λ h a. AreShort a) M

  good : (M : Seen) → Short M → IsGood M
  good M short = let k = short.0 in let b = k.0 in let w = b.0 in let e = w.0.0.0.0.0 in (e.0, e.1)

  pub fits : (M : Seen) → Short M → (p : Post) (h : Head) (a : Ask) → In p M.sent → asks p.message ≡ Some (h, a) → AskFits hd a
  fits M short = let k = short.0 in let b = k.0 in let w = b.0 in w.1

  pub addressed : (M : Seen) → Short M → AreSo (IsOfHeader hd) M
  addressed M short = let k = short.0 in let b = k.0 in let m = b.0 in let z = m.0 in let a = z.0.0.1 in a.1

  objects : (xs : List (ℕ × ℕ)) → AllByRecursion (λ (g : ℕ × ℕ). HasObject hd g.0) xs → AllByRecursion (λ (g : ℕ × ℕ). IsObject g.0) xs
  objects xs all = all_each (λ (g : ℕ × ℕ). HasObject hd g.0) (λ (g : ℕ × ℕ). IsObject g.0) xs (λ g has. object_number hd form g.0 has) all

  abbrev pub Named : Seen → Type 0
  Named M = Short M × NamesSo M

  of_requests : (M : Seen) → Named M → Asks M
  of_requests M its = let short = its.0 in record {
    prepares = λ p h states there is. all_each (λ (s : ObjectState). HasObject hd s.uid.num) (λ (s : ObjectState). IsObject s.uid.num)
        states
        (λ s has. object_number hd form s.uid.num has) (let f = fits M short p h (ask.Prepare states) there is in f.1);
    confirms = λ p h grants ex inc there is. (
      objects grants (let f = fits M short p h (ask.Confirm grants ex inc) there is in f.1),
      (let s = short.1 p h (ask.Confirm grants ex inc) there is in let m = s.2 in m.1),
    );
    entries = λ j n is x.
        let a = addressed M short in
        let most = few_stores hd form n.disk (its.1 j n is) (a.0 j n is).1 x in
        omega (arith, most);
  }

  abbrev pub Said : Seen → Type 0
  Said M = Named M × RepliesFit M

  pub said_keep : KeepsAsked hd Said
  said_keep = replies_keep hd Named (names_keep hd form Short (requests_keep hd form)) (λ M all. good M all.0) of_requests

  abbrev Told : Seen → Type 0
  Told M = Said M × ToldsFew M

  told_keep : KeepsAsked hd Told
  told_keep = tolds_keep hd Said said_keep
      (λ k d t M all. few_ends t.coord.tree (let s = all.0 in let n = s.0 in let z = n.0 in room hd form k d t M z.0))

  abbrev Counted : Seen → Type 0
  Counted M = Told M × VotesAreFew M

  counted_keep : KeepsAsked hd Counted
  counted_keep = votes_keep hd Told told_keep (λ M all. good M (let s = all.0 in let n = s.0 in n.0))
      (λ k d t M all. let s = all.0 in let n = s.0 in let z = n.0 in let b = z.0 in room hd form k d t M b.0)

  -- with the actions that were begun
  abbrev pub Alike : Seen → Type 0
  Alike M = Counted M × (IsNamed M × IsAlike M)

  alike_keep : KeepsAsked hd Alike
  alike_keep = asked_both hd Counted (λ M. IsNamed M × IsAlike M) counted_keep (keeps_asked hd (λ M. IsNamed M × IsAlike M) (paths_keep hd))

  pub said_of : (M : Seen) → Alike M → Said M
  said_of M all = let c = all.0 in let t = c.0 in t.0

  pub good_of : (M : Seen) → Alike M → IsGood M
  good_of M all = good M (let s = said_of M all in let n = s.0 in n.0)

  abbrev pub Saves : Seen → Type 0
  Saves M = Alike M × SavesWhere hd M

  pub saved_keep : KeepsAsked hd Saves
  saved_keep = saves_keep hd form Alike alike_keep good_of (λ M all. let a = all.1 in a.1)

  -- ---- kind by kind

  nodes_few : (ns : List ℕ) → length ns ≤ 255 → AreOf (IsOfHeader hd) ns → AreFew IsNode ns
  nodes_few ns few all = (few, all_each (IsOfHeader hd) IsNode ns (λ n is. node_number hd form n is) all)

  bound_sends : (r : BoundReply) → BoundOf (IsOfHeader hd) r → ListsFew r → BoundSends r
  bound_sends (bound.Live b server i g stores) of few = (node_number hd form server of.0, nodes_few stores few of.1)
  bound_sends (bound.Make b server g stores) of few = (node_number hd form server of.0, nodes_few stores few of.1)
  bound_sends (bound.Write g stores) of few = nodes_few stores few of
  bound_sends (bound.Conflict holder m) of few = tt

  prepared_sends : (r : PreparedReply) → ReplyFits (Reply.Prepared r) → PreparedSends r
  prepared_sends prepared.Yes fit = tt
  prepared_sends (prepared.InDoubt x holder) fit = fit
  prepared_sends (prepared.Old x v) fit = fit

  confirmed_sends : (r : ConfirmedReply) → ReplyFits (Reply.Confirmed r) → ConfirmedSends r
  confirmed_sends confirmed.Yes fit = tt
  confirmed_sends (confirmed.Conflict holder m) fit = tt
  confirmed_sends (confirmed.Changed w) fit = tt
  confirmed_sends (confirmed.NoStores x) fit = fit
  confirmed_sends (confirmed.Listed x n) fit = fit

  voted_sends : (r : VotedReply) → ((states : List ObjectState) → r ≡ voted.Yes states → length states ≤ 16) → VoteRestores r → VotedSends r
  voted_sends (voted.Yes states) few all = let most = few states refl in (omega (arith, most), all)
  voted_sends (voted.Changed w) few all = tt

  -- what is known of a message that was sent
  pub record IsKnownSo (p : Post) : Type 0 where
    pub asked : (h : Head) (a : Ask) → asks p.message ≡ Some (h, a) → AskFits hd a × AreShort a
    pub said : (a : Asked) (r : Reply) → answers p.message ≡ Some (a, r) → ReplyFits r
    pub told : ToldFew p.message
    pub voted : IsVotedFew p.message
    pub address : PostOf (IsOfHeader hd) p
    pub hello : (from : ℕ) → p.from ≡ from → IsOfHeader hd from

  sends : (p : Post) (m : Message) → p.message ≡ m → IsKnownSo p → ((n : ℕ) (i : ℕ) → m ≡ message.Hello (record { node = n; inc = i }) →
      n ≡ p.from) → IsLeft m → IsSendable m
  sends p (message.Bind m) is k own left =
      let f = k.asked m.head (ask.Bind m.x m.include m.avoid) (ap asks is) in object_number hd form m.x f.0
  sends p (message.Load m) is k own left = let f = k.asked m.head (ask.Load m.x) (ap asks is) in object_number hd form m.x f.0
  sends p (message.Activate m) is k own left = left
  sends p (message.RecordMsg m) is k own left =
      let f = k.asked m.head (ask.Record m.x m.binding m.server_inc m.naming_inc) (ap asks is) in object_number hd form m.x f.0
  sends p (message.Invoke m) is k own left =
      let f = k.asked m.head (ask.Invoke m.x m.binding m.server_inc m.ends m.op) (ap asks is) in
      let o = f.0 in
      (object_number hd form m.x o.0, f.1, left)
  sends p (message.Vote m) is k own left =
      let f = k.asked m.head (ask.Vote m.server_inc m.objects m.ends) (ap asks is) in
      let s = f.1 in (
        (
          s.0,
          all_each (λ (e : ℕ × Binding). HasObject hd e.0) (λ (e : ℕ × Binding). IsObject e.0) m.objects
              (λ e has. object_number hd form e.0 has) f.0,
        ),
        s.1,
      )
  sends p (message.Prepare m) is k own left = let f = k.asked m.head (ask.Prepare m.states) (ap asks is) in (f.1, left)
  sends p (message.Confirm m) is k own left =
      let f = k.asked m.head (ask.Confirm m.objects m.excluded m.included) (ap asks is) in
      let o = f.0 in
      let s = f.1 in
      ((s.0, objects m.objects o.1), s.1, s.2)
  sends p (message.Bound m) is k own left =
      let a = k.address in
      let b = a.2 in
      bound_sends m.reply (subst (λ (z : Message). AnsweredOf (IsOfHeader hd) (answers z)) is b.1)
      (k.said m.asked (Reply.Bound m.reply) (ap answers is))
  sends p (message.Prepared m) is k own left = prepared_sends m.reply (k.said m.asked (Reply.Prepared m.reply) (ap answers is))
  sends p (message.Confirmed m) is k own left = confirmed_sends m.reply (k.said m.asked (Reply.Confirmed m.reply) (ap answers is))
  sends p (message.Loaded m) is k own left = left
  sends p (message.Activated m) is k own left = tt
  sends p (message.Recorded m) is k own left = tt
  sends p (message.Invoked m) is k own left = left
  sends p (message.Voted m) is k own left = voted_sends m.reply
      (λ states same. k.voted m.asked states (ap answers is ∙ ap (λ (r : VotedReply). Some (m.asked, Reply.Voted r)) same)) left
  sends p (message.Told m) is k own left = subst ToldFew is k.told
  sends p (message.Acked m) is k own left = tt
  sends p (message.Query m) is k own left = tt
  sends p (message.Hello m) is k own left = node_number hd form m.node (k.hello m.node (sym (own m.node m.inc refl)))

-- ---- where operations are in form

module _ (A : Type 0) (sure : A) where
  loaded_left : (r : LoadedReply) → ReplyIsSo (F A) (Reply.Loaded r) → LoadedSends r
  loaded_left (loaded.State st) its = (its.0).0 sure
  loaded_left (loaded.InDoubt h) its = tt

  voted_left : (r : VotedReply) → ReplyIsSo (F A) (Reply.Voted r) → VoteRestores r
  voted_left (voted.Yes states) its = all_each (Own (Saved A)) StateSends states (λ st so. (so.0).0 sure) its
  voted_left (voted.Changed w) its = tt

  answer_left : (a : Answer) → AnswerSays a → AnswerSends a
  answer_left (answer.Text bytes) its = its.0
  answer_left a its = tt

  invoked_left : (r : InvokedReply) → InvokedSays A r → InvokedSends r
  invoked_left (invoked.Answered a) its = answer_left a (its sure)
  invoked_left (invoked.Conflict u m) its = tt
  invoked_left (invoked.Changed w) its = tt

left_of : (A : Type 0) → A → (m : Message) → MessageSaves A m → ((h : Head) (x : ℕ) (b : Binding) (i : ℕ) (ends : List (Uid × End)) (o : Op) →
    asks m ≡ Some (h, ask.Invoke x b i ends o) → OpTextInForm o) → IsLeft m
left_of A sure (message.Loaded m) s ops = let z = s.0 in loaded_left A sure m.reply z.1
left_of A sure (message.Activate m) s ops = let z = s.0 in let q = z.0 in let f = q.0 in f.0 sure
left_of A sure (message.Invoke m) s ops = op_in_form m.op (ops m.head m.x m.binding m.server_inc m.ends m.op refl)
left_of A sure (message.Invoked m) s ops = invoked_left A sure m.reply (s.1 m.asked (Reply.Invoked m.reply) refl)
left_of A sure (message.Voted m) s ops = let z = s.0 in voted_left A sure m.reply z.1
left_of A sure (message.Prepare m) s ops = let z = s.0 in all_each (Own (Saved A)) StateSends m.states (λ st its. (its.0).0 sure) z.0
left_of A sure m s ops = tt

-- ---- in every run

module _ (hd : Header) (form : HeaderFits hd) (w : World) (h : Holds hd (Saves hd form) w) where
  abbrev M : Seen
  M = see h.sent w

  counted : Counted hd form M
  counted = let k = h.holds in let a = k.0 in a.0

  told : Told hd form M
  told = let k = counted in k.0

  short : Short hd form M
  short = let t = told in let s = t.0 in let n = s.0 in n.0

  address : (p : Post) → In p M.sent → PostOf (IsOfHeader hd) p
  address p there = let a = addressed hd form M short in a.1 p there

  hello_own : (p : Post) → In p M.sent → (n i : ℕ) → p.message ≡ message.Hello (record { node = n; inc = i }) → n ≡ p.from
  hello_own p there n i is = by (M.nodes p.from) refl
    where
      by : (o : Option Node) → M.nodes p.from ≡ o → n ≡ p.from
      by None none =
          let from = (address p there).0 in
          let no_way : false ≡ true = sym (ap is_some none) ∙ (let z = h.stands in z.places p.from from) in
          absurd (cc no_way)
      by (Some node) found = let g = good hd form M short in let z = g.1 in let s = z.so p node there found in
          (subst (λ (y : Message). SaysInc p.from node.disk.inc y) is s.inc).0

  known : (p : Post) → In p M.sent → IsKnownSo hd form p
  known p there = record {
    asked = λ z a is. (fits hd form M short p z a there is, short.1 p z a there is);
    said = λ a z is. (let t = told in let s = t.0 in s.1 p a z there is);
    told = (let t = told in t.1 p there);
    voted = (let k = counted in let v = k.1 in v.2 p there);
    address = address p there;
    hello = λ from same. subst (IsOfHeader hd) same (let a = address p there in a.0);
  }

  its : (p : Post) → In p M.sent → IsLeft p.message → IsSendable p.message
  its p there left = sends hd form p p.message refl (known p there) (λ n i is. hello_own p there n i is) left

  pub spelled : Holds hd AreSendable w
  spelled = record { sent = h.sent; stands = h.stands; holds = its }

  pub restored : IsReady M → FirstsRestore hd M.start → Holds hd AreSpelled w
  restored ready older = record {
    sent = h.sent;
    stands = h.stands;
    holds = λ p there. let k = h.holds in let all = k.1 ready in
        its p there (left_of (FirstsRestore hd M.start) older p.message (all.1 p there)
        (λ z x b i ends o is. let ops = ready.0 in ops p z x b i ends o there is));
  }

pub runs_spell : RunsSpell
runs_spell hd form r = spelled hd form (world_by hd r) (moves_asked hd (Saves hd form) (saved_keep hd form) r)

-- what is sent in a run in form, and what is known then
pub ready_in_form : (hd : Header) (X : Seen → Type 0) → KeepsAsked hd X → ((M : Seen) → X M → IsGood M) → (r : RunOf hd) → IsInForm hd r →
    Holds hd (λ M. X M × IsReady M) (world_by hd r)
ready_in_form hd X keeps good r form =
    let h = ops_in_form hd X keeps good r form in
    record {
      sent = h.sent;
      stands = h.stands;
      holds = (
        (let b = h.holds in b.0),
        (
          (λ p z x b i ends o there is. (let k = h.holds in k.1 p z (ask.Invoke x b i ends o) there is)),
          lines_have_uids (journal_by hd r) (runs_say_actions hd r form (let f = r.formed in f.incs)),
        ),
      );
    }

pub runs_in_form : RunsInFormSpell
runs_in_form hd r form =
    let header = form.header in
    let h = ready_in_form hd (Saves hd header) (saved_keep hd header) (λ M all. good_of hd header M all.0) r form in
    restored hd header (world_by hd r) (record { sent = h.sent; stands = h.stands; holds = (let b = h.holds in b.0) })
    (let k = h.holds in k.1) (subst (FirstsRestore hd) (sym (start_stays hd r)) (firsts_restore hd r.start r.formed form.held))
