-- A node that takes a request answers it, and its coordinator stays as it is.
use Rattle.arj_law_parts.proofs.Words
use Words.{◌≡◌, ◌∙◌, ℕ, Bool, true, false, List, [], ◌∷◌, ◌++◌, refl, sym, ap, inl, inr, Option, Some, None, ⊤, if◌then◌else◌, option_map}
use Words.{In, Asked, Ask, Head, LoadedReply, Message, ObjectState, PreparedReply, Uid, asks, object, Reply, actor, answers, ask_kind}
use Words.{asked_by, reply_kind, response, confirm, Already, Disk, Do, Effect, InDoubt, Look, Old, Prep, Prepare, Ready, Say, Send, Served}
use Words.{held_at, holder_of, is_prepared, prepare_answer, Naming, Handled, Parts, Took, Void, if_naming, load_by, load_held, prepare_by}
use Words.{sends_answer, serve, served, with_naming, with_server}
use Words.ask
use Words.body
use Words.role
use Words.loaded
use Words.message
use Words.prepared
use Words.naming
use Words.server

-- the last one of a list
pub in_last : {A : Type 0} (a : A) (xs : List A) → In a (xs ++ a ∷ [])
in_last a [] = inl refl
in_last a (x ∷ xs) = inr (in_last a xs)

-- what is sent back, and that the coordinator is the same
pub record HasAnswered (from : ℕ) (h : Head) (a : Ask) (t v : Parts) (outs : List Effect) : Type 0 where
  pub coord : v.coord ≡ t.coord
  pub reply : Reply
  pub sent : In (Send from (response (asked_by h) reply)) outs
  pub kind : reply_kind reply ≡ ask_kind a

abbrev pub IsServed : ℕ → Head → Ask → Parts → Handled → Type 0
IsServed from h a t (Void outs) = ⊤
IsServed from h a t (Took v outs) = HasAnswered from h a t v outs

answer_served : (from : ℕ) (h : Head) (a : Ask) (t v : Parts) (outs : List Effect) (o : Option Reply) → v.coord ≡ t.coord →
    ((r : Reply) → o ≡ Some r → reply_kind r ≡ ask_kind a) → IsServed from h a t (sends_answer from h v outs o)
answer_served from h a t v outs None same kind = tt
answer_served from h a t v outs (Some r) same kind =
    record { coord = same; reply = r; sent = in_last (Send from (response (asked_by h) r)) outs; kind = kind r refl }

-- an answer that is said so is of its kind
kind_by : {R : Type 0} (say : R → Reply) (k : ℕ) → ((r : R) → reply_kind (say r) ≡ k) → (o : Option R) (r : Reply) →
    option_map say o ≡ Some r → reply_kind r ≡ k
kind_by say k each None r is = absurd (cc is)
kind_by say k each (Some x) r is = let same : say x ≡ r = cc is in ap reply_kind (sym same) ∙ each x

part_served : {S R : Type 0} (from : ℕ) (h : Head) (a : Ask) (t : Parts) (put : S → Parts) (say : R → Reply) (r : Served S R) →
    ((s : S) → (put s).coord ≡ t.coord) → ((x : R) → reply_kind (say x) ≡ ask_kind a) → IsServed from h a t (served from h put say r)
part_served from h a t put say r same each =
    answer_served from h a t (put r.part) r.outs (option_map say r.reply) (same r.part) (kind_by say (ask_kind a) each r.reply)

naming_served : (from : ℕ) (h : Head) (a : Ask) (t : Parts) (f : Naming → Handled) (o : Option Naming) →
    ((n : Naming) → IsServed from h a t (f n)) → IsServed from h a t (if_naming f o)
naming_served from h a t f None each = tt
naming_served from h a t f (Some n) each = each n

pub serve_served : (n : ℕ) (d : Disk) (t : Parts) (from : ℕ) (h : Head) (a : Ask) → IsServed from h a t (serve n d t from h a)
serve_served n d t from h (ask.Bind x include avoid) = naming_served from h (ask.Bind x include avoid) t
    (λ o. served from h (with_naming t) Reply.Bound (naming.bind h.path x include avoid d.names o)) t.naming
    (λ o. part_served from h (ask.Bind x include avoid) t (with_naming t) Reply.Bound (naming.bind h.path x include avoid d.names o)
    (λ s. refl) (λ x. refl))
serve_served n d t from h (ask.Load x) = by (holder_of (object x) d.store)
  where
    sent : (outs : List Effect) (l : LoadedReply) → IsServed from h (ask.Load x) t (sends_answer from h t outs (Some (Reply.Loaded l)))
    sent outs l = answer_served from h (ask.Load x) t t outs (Some (Reply.Loaded l)) refl (λ r is. let same : Reply.Loaded l ≡ r = cc is in
        ap reply_kind (sym same))

    held : (s : Option ObjectState) → IsServed from h (ask.Load x) t (load_held from h t s)
    held None = tt
    held (Some s) = sent (Do Look ∷ []) (loaded.State s)

    by : (o : Option Uid) → IsServed from h (ask.Load x) t (load_by x d.store from h t o)
    by (Some u) = sent [] (loaded.InDoubt u)
    by None = held (held_at (object x) d.store)
serve_served n d t from h (ask.Activate b st) = part_served from h (ask.Activate b st) t (with_server t) Reply.Activated
    (server.activate n h.path b st t.server) (λ s. refl) (λ x. refl)
serve_served n d t from h (ask.Record x b i g) =
    naming_served from h (ask.Record x b i g) t (λ o. served from h (with_naming t) Reply.Noted (naming.note h.path x b i g o)) t.naming
    (λ o. part_served from h (ask.Record x b i g) t (with_naming t) Reply.Noted (naming.note h.path x b i g o) (λ s. refl) (λ x. refl))
serve_served n d t from h (ask.Invoke x b i ends op) = part_served from h (ask.Invoke x b i ends op) t (with_server t) Reply.Invoked
    (server.invoke n h x b i ends op t.server) (λ s. refl) (λ x. refl)
serve_served n d t from h (ask.Vote i ties ends) = part_served from h (ask.Vote i ties ends) t (with_server t) Reply.Voted
    (server.vote n h.path i ties ends t.server) (λ s. refl) (λ x. refl)
serve_served n d t from h (ask.Prepare states) = twice (is_prepared (actor h.path) d.store)
  where
    sent : (outs : List Effect) (p : PreparedReply) →
        IsServed from h (ask.Prepare states) t (sends_answer from h t outs (Some (Reply.Prepared p)))
    sent outs p = answer_served from h (ask.Prepare states) t t outs (Some (Reply.Prepared p)) refl
        (λ r is. let same : Reply.Prepared p ≡ r = cc is in ap reply_kind (sym same))

    by : (a : Prep) → IsServed from h (ask.Prepare states) t (prepare_by n states from h t a)
    by Ready =
        sent (Do Look ∷ Do (Prepare role.Store (actor h.path) states) ∷ Say (body.Prepared n (actor h.path) role.Store) ∷ []) prepared.Yes
    by (Already u) = tt
    by (Old u v) = sent (Do Look ∷ []) (prepared.Old u.num v)
    by (InDoubt u holder) = sent (Do Look ∷ []) (prepared.InDoubt u.num holder)

    twice : (b : Bool) → IsServed from h (ask.Prepare states) t (if b then sends_answer from h t [] (Some (Reply.Prepared prepared.Yes))
        else prepare_by n states from h t (prepare_answer (actor h.path) states d.store))
    twice true = sent [] prepared.Yes
    twice false = by (prepare_answer (actor h.path) states d.store)
serve_served n d t from h (ask.Confirm grants excluded included) = naming_served from h (ask.Confirm grants excluded included) t
    (λ o. served from h (with_naming t) Reply.Confirmed (confirm h.path grants excluded included d.names o)) t.naming
    (λ o. part_served from h (ask.Confirm grants excluded included) t (with_naming t) Reply.Confirmed
    (confirm h.path grants excluded included d.names o) (λ s. refl) (λ x. refl))

-- what an answer says as a message
pub answers_response : (a : Asked) (r : Reply) → answers (response a r) ≡ Some (a, r)
answers_response a (Reply.Bound r) = refl
answers_response a (Reply.Loaded r) = refl
answers_response a (Reply.Activated i) = refl
answers_response a (Reply.Noted r) = refl
answers_response a (Reply.Invoked r) = refl
answers_response a (Reply.Voted r) = refl
answers_response a (Reply.Prepared r) = refl
answers_response a (Reply.Confirmed r) = refl

-- no request is an answer
pub asks_no_answer : (m : Message) (h : Head) (a : Ask) → asks m ≡ Some (h, a) → answers m ≡ None
asks_no_answer (message.Bind m) h a is = refl
asks_no_answer (message.Load m) h a is = refl
asks_no_answer (message.Activate m) h a is = refl
asks_no_answer (message.RecordMsg m) h a is = refl
asks_no_answer (message.Invoke m) h a is = refl
asks_no_answer (message.Vote m) h a is = refl
asks_no_answer (message.Prepare m) h a is = refl
asks_no_answer (message.Confirm m) h a is = refl
asks_no_answer (message.Bound m) h a is = absurd (cc is)
asks_no_answer (message.Loaded m) h a is = absurd (cc is)
asks_no_answer (message.Activated m) h a is = absurd (cc is)
asks_no_answer (message.Recorded m) h a is = absurd (cc is)
asks_no_answer (message.Invoked m) h a is = absurd (cc is)
asks_no_answer (message.Voted m) h a is = absurd (cc is)
asks_no_answer (message.Prepared m) h a is = absurd (cc is)
asks_no_answer (message.Confirmed m) h a is = absurd (cc is)
asks_no_answer (message.Told m) h a is = refl
asks_no_answer (message.Acked m) h a is = refl
asks_no_answer (message.Query m) h a is = refl
asks_no_answer (message.Hello m) h a is = refl
