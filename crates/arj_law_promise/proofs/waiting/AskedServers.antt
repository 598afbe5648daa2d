-- What a server has was asked for, whatever it does.
use Rattle.arj_law_parts.proofs.Words
use Words.{◌≡◌, ◌||◌, ◌==◌, ℕ, List, [], ◌∷◌, Bool, true, false, cond, Option, Some, None, refl, sym, subst, AllByRecursion, match_ordering}
use Words.{Ordering, Less, Equal, Greater, uid_order, Ask, Binding, End, Head, InvokedReply, ObjectState, Op, Path, Uid, VotedReply, What}
use Words.{asks, actor, Copy, end_copy, invoke_copy, taken_copy, Did, Served, did_nothing, either, reply, void, at_number, at_uid}
use Words.{binding_eq, binding_less, put_uid, Kept, Server, activate, active_binding, apply_ends, changed_by, end_new, end_one}
use Words.{first_unbound, has_ended, invoke, invoke_kept, invoke_new, invoke_now, is_below, is_told, keeps, new_server, on_copy, other_inc}
use Words.{told, took_copy, vote, vote_now, Post}
use Words.ask
use Rattle.arj_law_promise.proofs.Terms.{order_exact, keyed_each, keyed_found, keyed_put, all_without, In, ServerWasAsked, WasBrought}
use Rattle.arj_law_parts.proofs.parts.ServerRuns.{ask_binding, end_binding}
use Rattle.arj_law_promise.specs.waiting.Asked.{WasAsked}
use Rattle.arj_protocol.specs.Server.{taken_end}

-- one more in a map, under its own key
put_all : {X : Type 0} (Q : Uid → X → Type 0) (u : Uid) (x : X) (es : List (Uid × X)) → Q u x →
    AllByRecursion (λ (e : Uid × X). Q e.0 e.1) es → AllByRecursion (λ (e : Uid × X). Q e.0 e.1) (put_uid u x es)
put_all Q u x [] its all = (its, tt)
put_all {X} Q u x (e ∷ es) its all = by (uid_order u e.0) refl (put_all Q u x es its all.1)
  where
    by : (r : Ordering) → uid_order u e.0 ≡ r → AllByRecursion (λ (f : Uid × X). Q f.0 f.1) (put_uid u x es) →
        AllByRecursion (λ (f : Uid × X). Q f.0 f.1) (match_ordering r ((u, x) ∷ e ∷ es) ((e.0, x) ∷ es) (e ∷ put_uid u x es))
    by Less is ih = (its, all)
    by Equal is ih = (subst (λ w. Q w x) (order_exact u e.0 is) its, all.1)
    by Greater is ih = (all.0, ih)

module _ (sent : List Post) where
  abbrev Was : Server → Type 0
  Was s = ServerWasAsked sent s

  abbrev Of : ℕ → Copy → Type 0
  Of x c = WasBrought sent x c.binding

  pub none_asked : (inc : ℕ) → Was (new_server inc)
  none_asked inc = record { kept = tt; copies = tt }

  end_asked : (n : ℕ) (u : Uid) (e : End) (s : Server) → Was s → Was (end_one n u e s).part
  end_asked n u e s was = by (is_told u s)
    where
      by : (b : Bool) → Was (cond {A = Did Server} b (did_nothing s) (end_new n u (taken_end u e s) s)).part
      by true = was
      by false = record {
        kept = all_without (λ (k : Uid × Kept). WasAsked sent k.0 k.1.req) u s.kept was.kept;
        copies = keyed_each Of (λ x. end_copy u (taken_end u e s))
            (λ x c its. subst (WasBrought sent x) (sym (end_binding u (taken_end u e s) c)) its) s.objects was.copies;
      }

  pub told_asked : (n : ℕ) (es : List (Uid × End)) (s : Server) → Was s → Was (told n es s).part
  told_asked n [] s was = was
  told_asked n (e ∷ es) s was = told_asked n es (end_one n e.0 e.1 s).part (end_asked n e.0 e.1 s was)

  pub vote_asked : (n : ℕ) (p : Path) (i : ℕ) (ties : List (ℕ × Binding)) (ends : List (Uid × End)) (s : Server) → Was s →
      Was (vote n p i ties ends s).part
  vote_asked n p i ties ends s was = by (has_ended p s)
    where
      now : (w : Option What) → Was (vote_now n (actor p) ends s w).part
      now (Some w) = was
      now None = let t = told_asked n ends s was in record { kept = t.kept; copies = t.copies }

      by : (b : Bool) → Was (cond {A = Served Server VotedReply} b (void s)
          (vote_now n (actor p) ends s (either (other_inc i s.inc) (first_unbound ties s)))).part
      by true = was
      by false = now (either (other_inc i s.inc) (first_unbound ties s))

  -- a request that was sent
  module _ (post : Post) (posted : In post sent) (h : Head) where
    pub activate_asked : (n : ℕ) (b : Binding) (st : ObjectState) (s : Server) → asks post.message ≡ Some (h, ask.Activate b st) → Was s →
        Was (activate n h.path b st s).part
    activate_asked n b st s is was =
        by (has_ended h.path s) (binding_less b (active_binding st.uid.num s)) (binding_eq b (active_binding st.uid.num s))
      where
        by : (over lower equal : Bool) →
            Was (cond {A = Served Server ℕ} (over || lower) (void s) (cond equal (reply s s.inc) (took_copy n st.uid.num b st s))).part
        by true lower equal = was
        by false true equal = was
        by false false true = was
        by false false false = record {
          kept = was.kept;
          copies = keyed_put Of st.uid.num (taken_copy b st) s.objects
              (record { post = post; head = h; state = st; posted = posted; asking = is; object_is = refl }) was.copies;
        }

    pub invoke_asked : (a : Ask) → asks post.message ≡ Some (h, a) →
        (n x : ℕ) (b : Binding) (i : ℕ) (ends : List (Uid × End)) (o : Op) (s : Server) → Was s → Was (invoke n h x b i ends o s).part
    invoke_asked a is n x b i ends o s was = by (has_ended h.path s || is_below h.req (at_uid (actor h.path) s.kept))
      where
        Left : Served Server InvokedReply → Type 0
        Left r = Was r.part

        stays : (q : Option InvokedReply) (v : Server) → Was v → Was (keeps (actor h.path) h.req q v)
        stays None v its = its
        stays (Some q) v its = record {
          kept = put_all (λ u (k : Kept). WasAsked sent u k.req) (actor h.path) (record { req = h.req; answer = q }) v.kept
              (record { post = post; head = h; ask = a; posted = posted; asking = is; actor_is = refl; number = refl }) its.kept;
          copies = its.copies;
        }

        copied : (t : Server) → Was t → (f : Option Copy) → at_number x t.objects ≡ f → Was (on_copy x (invoke_copy n h.path x o) t f).part
        copied t its None there = its
        copied t its (Some c) there = record {
          kept = its.kept;
          copies = keyed_put Of x (invoke_copy n h.path x o c).part t.objects
              (subst (WasBrought sent x) (sym (ask_binding n h.path x o c)) (keyed_found Of x t.objects c its.copies there)) its.copies;
        }

        new : Left (invoke_new n h x ends o s)
        new =
            let t = (apply_ends n ends s).part in
            let r = on_copy x (invoke_copy n h.path x o) t (at_number x t.objects) in
            stays r.reply r.part (copied t (told_asked n ends s was) (at_number x t.objects) refl)

        kept : (q : Option Kept) → Left (invoke_kept n h x ends o s q)
        kept None = new
        kept (Some q) = one (q.req == h.req)
          where
            one : (c : Bool) → Left (cond {A = Served Server InvokedReply} c (reply s q.answer) (invoke_new n h x ends o s))
            one true = was
            one false = new

        now : (w : Option What) → Left (invoke_now n h x ends o s w)
        now (Some w) = was
        now None = kept (at_uid (actor h.path) s.kept)

        by : (c : Bool) → Left (cond {A = Served Server InvokedReply} c (void s) (invoke_now n h x ends o s (changed_by i x b s)))
        by true = was
        by false = now (changed_by i x b s)

-- more was sent
asked_more : (few many : List Post) → ((p : Post) → In p few → In p many) → (u : Uid) (req : ℕ) → WasAsked few u req → WasAsked many u req
asked_more few many in_it u req w = record {
  post = w.post;
  head = w.head;
  ask = w.ask;
  posted = in_it w.post w.posted;
  asking = w.asking;
  actor_is = w.actor_is;
  number = w.number;
}

brought_more : (few many : List Post) → ((p : Post) → In p few → In p many) → (x : ℕ) (b : Binding) → WasBrought few x b →
    WasBrought many x b
brought_more few many in_it x b w =
    record { post = w.post; head = w.head; state = w.state; posted = in_it w.post w.posted; asking = w.asking; object_is = w.object_is }

pub server_more : (few many : List Post) → ((p : Post) → In p few → In p many) → (s : Server) → ServerWasAsked few s → ServerWasAsked many s
server_more few many in_it s was = record { kept = kept s.kept was.kept; copies = copies s.objects was.copies }
  where
    kept : (es : List (Uid × Kept)) → AllByRecursion (λ (e : Uid × Kept). WasAsked few e.0 e.1.req) es →
        AllByRecursion (λ (e : Uid × Kept). WasAsked many e.0 e.1.req) es
    kept [] all = tt
    kept (e ∷ es) all = (asked_more few many in_it e.0 e.1.req all.0, kept es all.1)

    copies : (es : List (ℕ × Copy)) → AllByRecursion (λ (e : ℕ × Copy). WasBrought few e.0 e.1.binding) es →
        AllByRecursion (λ (e : ℕ × Copy). WasBrought many e.0 e.1.binding) es
    copies [] all = tt
    copies (e ∷ es) all = (brought_more few many in_it e.0 e.1.binding all.0, copies es all.1)
