-- Bytes that are handed to a node: those that are a message are refused, and any others are a frame from nobody.
use Rattle.std.specs.Prelude.{◌≡◌, ◌⊎◌, refl, ℕ, List, [], ◌∷◌, ◌++◌, map, true, false, Some, None}
use Rattle.std.proofs.Common.{inl, inr, ap, subst, ◌∙◌}
use Rattle.std.specs.List.{list_all}
use Rattle.arj_msg.specs.Layout.{message, hello}
use Rattle.arj_msg.specs.Format.{byte}
use Rattle.arj_msg.specs.Fields.{node, number4}
use Rattle.arj_journal.specs.declared.body.Body.{Body}
use Rattle.arj_journal.specs.declared.body.Body.TheVariants as body
use Rattle.arj_journal.specs.declared.body.FrameKind.TheVariants as frame
use Rattle.arj_journal.specs.declared.body.Which.TheVariants as which
use Rattle.arj_journal.specs.declared.event.Event.{Event}
use Rattle.arj_journal.specs.declared.event.Event.TheVariants as event
use Rattle.arj_journal.specs.declared.event.FrameNo.TheVariants.{Number}
use Rattle.arj_model.specs.Past.{nothing_yet}
use Rattle.arj_start.specs.Start.{fresh}
use Rattle.arj_model.specs.Refusals.{is_message, refusal}
use Rattle.arj_model.specs.Own.{Begins, Ends, IsFrameLimit, may_stand}
use Rattle.arj_model.specs.Follows.{Follows, Step, Accepted, IsRefusedDoomed}
use Rattle.arj_model.proofs.Journals.{lines_of, one_node, sent}
use Rattle.arj_model.proofs.Rows.{went, accepted, runs, ◌&◌}

-- node 2 tells that it is up again, in its third incarnation
abbrev hello_bytes : List ℕ
hello_bytes = 20 ∷ 2 ∷ 0 ∷ 0 ∷ 0 ∷ 3 ∷ []

-- the message alone is one: not a part of it, nor with a byte behind it, nor with a kind or a node that there isn't
are_messages :
    map is_message (hello_bytes ∷ (hello_bytes ++ 0 ∷ []) ∷ (20 ∷ 2 ∷ 0 ∷ 0 ∷ 0 ∷ []) ∷ (21 ∷ 2 ∷ 0 ∷ 0 ∷ 0 ∷ 3 ∷ []) ∷ (20 ∷ 17 ∷ 0 ∷ 0 ∷ 0 ∷ 3 ∷ []) ∷ (255 ∷ []) ∷ [] ∷ [])
    ≡ true ∷ false ∷ false ∷ false ∷ false ∷ false ∷ false ∷ []
unfolding message hello node number4 byte
are_messages = refl

-- an unknown node is refused first
junk_causes :
    map (refusal (one_node 0) nothing_yet) (event.Junk 1 hello_bytes ∷ event.Junk 2 hello_bytes ∷ event.Junk 1 (255 ∷ []) ∷ []) ≡ Some 18 ∷ Some 1 ∷ None ∷ []
unfolding message hello node number4 byte
junk_causes = refl

abbrev junk_events : List Event
junk_events =
    event.Junk 1 hello_bytes ∷ event.Junk 1 (255 ∷ []) ∷ event.Deliver (Number 1) ∷ event.Junk 1 (hello_bytes ++ 0 ∷ []) ∷ event.Junk 2 (255 ∷ []) ∷ []

abbrev junk_bodies : List (List Body)
junk_bodies =
    (body.Refused 18 ∷ []) ∷ (sent 1 0 1 frame.Junk ∷ []) ∷ (body.Void 1 ∷ []) ∷ (sent 2 0 1 frame.Junk ∷ []) ∷ (body.Refused 1 ∷ []) ∷ []

junk_follows : Follows (one_node 0) fresh junk_events (lines_of junk_bodies)
unfolding message hello node number4 byte
junk_follows = runs (Step (one_node 0)) junk_events junk_bodies [] (
    went refl refl
    & went refl (accepted (sent 1 0 1 frame.Junk ∷ []) [] [] (inl refl) refl refl refl tt)
    & went refl (accepted (body.Void 1 ∷ []) [] [] (inr refl) (inl refl) refl refl tt)
    & went refl (accepted (sent 2 0 1 frame.Junk ∷ []) [] [] (inl refl) refl refl refl tt)
    & went refl refl
    & tt) tt

-- a message isn't sent by nobody, and what is none isn't refused as one
no_message_sent : Step (one_node 0) nothing_yet (event.Junk 1 hello_bytes) (sent 1 0 1 frame.Junk ∷ []) → ⊥
unfolding message hello node number4 byte
no_message_sent s = by s.lines
  where
    by : ((sent 1 0 1 frame.Junk ∷ [] ≡ body.Refused 18 ∷ []) ⊎ IsRefusedDoomed (one_node 0) nothing_yet (event.Junk 1 hello_bytes) (sent 1 0 1 frame.Junk ∷ [])) → ⊥
    by (inl e) = cc
    by (inr d) = let e = d.line in cc

no_other_refused : Step (one_node 0) nothing_yet (event.Junk 1 (255 ∷ [])) (body.Refused 18 ∷ []) → ⊥
unfolding message hello node number4 byte
no_other_refused s = by s.lines
  where
    unsent : (others last : List Body) → list_all (may_stand (event.Junk 1 (255 ∷ []))) others ≡ true → IsFrameLimit last →
        body.Refused 18 ∷ [] ≡ others ++ last → ⊥
    unsent [] last only is e = let h : body.Refused 18 ∷ [] ≡ body.Limit which.Frames ∷ [] = e ∙ is in cc
    unsent (b ∷ bs) last only is e = cc

    begins : (own others last : List Body) → Begins (one_node 0) nothing_yet (event.Junk 1 (255 ∷ [])) own →
        Ends (event.Junk 1 (255 ∷ [])) own last
        → list_all (may_stand (event.Junk 1 (255 ∷ []))) others ≡ true → body.Refused 18 ∷ [] ≡ own ++ (others ++ last) → ⊥
    begins own others last (inl e) ends only parts =
        let h : body.Refused 18 ∷ [] ≡ (sent 1 0 1 frame.Junk ∷ []) ++ (others ++ last) =
        parts ∙ ap (λ (own : List Body). own ++ (others ++ last)) e in cc
    begins own others last (inr e) ends only parts =
        unsent others last only (subst (λ own. Ends (event.Junk 1 (255 ∷ [])) own last) e ends) (parts ∙ ap (λ (own : List Body). own ++ (others ++ last)) e)

    by : (Accepted (one_node 0) nothing_yet (event.Junk 1 (255 ∷ [])) (body.Refused 18 ∷ []) ⊎ IsRefusedDoomed (one_node 0) nothing_yet (event.Junk 1 (255 ∷ [])) (body.Refused 18 ∷ [])) → ⊥
    by (inl a) = begins a.own a.others a.last a.begins a.ends a.only a.parts
    by (inr d) = let e = d.about in cc
