-- Records stand until they are removed, which is done only of commits that were told to be acknowledged: along a step.
use Rattle.arj_law_parts.proofs.Words
use Words.{◌≡◌, ◌≢◌, ◌==◌, ℕ, List, [], ◌∷◌, Bool, true, false, cond, Option, Some, None, sym, ◌∙◌, ap, subst, inl, inr, ⊎_elim, uid_cases}
use Words.{Uid, Abort, After, Before, Commit, Disk, Do, Effect, InPart, Intent, Look, Prepare, PutInc, PutIntent, RemoveIntent, Say, Send}
use Words.{Stop, Work, stopped, worked, Parts, at_uid, put_uid, without_uid, Node, Post, Seen}
use Words.role
use Rattle.arj_law_serial.proofs.Terms.{Within, at, posted, said, Up, Walks, halted, IsDemanded, WasRecorded, record_in, records_in}
use Rattle.arj_law_disk_view.proofs.view.Keys.{put_other, put_same, without_other}
use Rattle.arj_law_serial.proofs.joint.Recording.{Puts, PutsOnly}
use Rattle.arj_law_serial.proofs.whole.AckSteps.{demanded_more, records_at, same_records}

-- what had a record, or was told to be acknowledged, has one, or was
abbrev pub KeepsRecords : Seen → Seen → Type 0
KeepsRecords M Z = (u : Uid) → WasRecorded (records_in M.nodes) M.sent u → WasRecorded (records_in Z.nodes) Z.sent u

-- a message more
posted_stands : (records : Uid → Option Intent) (sent : List Post) (p : Post) (u : Uid) → WasRecorded records sent u →
    WasRecorded records (p ∷ sent) u
posted_stands records sent p u (inl r) = inl r
posted_stands records sent p u (inr d) = inr (demanded_more sent p u d)

-- told so among more
demanded_within : (few many : List Post) → Within few many → (u : Uid) → IsDemanded few u → IsDemanded many u
demanded_within few many all u d = record { post = d.post; posted = all d.post d.posted; demands = d.demands }

-- ---- records of one node

module _ (k : ℕ) (found : ℕ → Option Node) (sent : List Post) where
  -- other records of the node, among which the top's stands
  some_stands : (a b : List (Uid × Intent)) (u : Uid) → ((i : Intent) → at_uid u a ≡ Some i → (j : Intent) × (at_uid u b ≡ Some j)) →
      WasRecorded (records_at k a found) sent u → WasRecorded (records_at k b found) sent u
  some_stands a b u stands (inr d) = inr d
  some_stands a b u stands (inl (i, is)) = inl (by (u.node == k) is)
    where
      by : (c : Bool) → cond c (at_uid u a) (record_in u (found u.node)) ≡ Some i →
          (j : Intent) × (cond c (at_uid u b) (record_in u (found u.node)) ≡ Some j)
      by true at = stands i at
      by false at = (i, at)

  -- a work
  module _ (C D : Uid → Type 0) (told : (u : Uid) → D u → IsDemanded sent u) where
    worked_stands : (w : Work) (d : Disk) → Puts C D (Do w) → (u : Uid) → WasRecorded (records_at k d.intents found) sent u →
        WasRecorded (records_at k (let c = worked w d in c.intents) found) sent u
    worked_stands Look d puts u h = h
    worked_stands (PutInc i) d puts u h = h
    worked_stands (Prepare role.Store v states) d puts u h = h
    worked_stands (Prepare role.Names v states) d puts u h = h
    worked_stands (Commit role.Store v) d puts u h = h
    worked_stands (Commit role.Names v) d puts u h = h
    worked_stands (Abort role.Store v) d puts u h = h
    worked_stands (Abort role.Names v) d puts u h = h
    worked_stands (PutIntent v i) d puts u h = some_stands d.intents (put_uid v i d.intents) u
        (λ z at. ⊎_elim (λ same. (i, ap (λ w. at_uid w (put_uid v i d.intents)) same ∙ put_same v i d.intents))
        (λ other. (z, put_other u v i d.intents other ∙ at)) (uid_cases u v)) h
    worked_stands (RemoveIntent v) d puts u h = ⊎_elim
        (λ same. inr (subst (IsDemanded sent) (sym same) (told v puts)))
        (λ (other : u ≢ v). some_stands d.intents (without_uid v d.intents) u (λ z at. (z, without_other u v d.intents other ∙ at)) h)
        (uid_cases u v)

    part_stands : (which : Uid → Bool) (w : Work) (d : Disk) (u : Uid) → WasRecorded (records_at k d.intents found) sent u →
        WasRecorded (records_at k (let c = stopped (InPart which) w d in c.intents) found) sent u
    part_stands which Look d u h = h
    part_stands which (PutInc i) d u h = h
    part_stands which (Prepare r v states) d u h = h
    part_stands which (Commit role.Store v) d u h = h
    part_stands which (Commit role.Names v) d u h = h
    part_stands which (Abort r v) d u h = h
    part_stands which (PutIntent v i) d u h = h
    part_stands which (RemoveIntent v) d u h = h

    stopped_stands : (how : Stop) (w : Work) (d : Disk) → Puts C D (Do w) → (u : Uid) → WasRecorded (records_at k d.intents found) sent u →
        WasRecorded (records_at k (let c = stopped how w d in c.intents) found) sent u
    stopped_stands Before w d puts u h = h
    stopped_stands After w d puts u h = worked_stands w d puts u h
    stopped_stands (InPart which) w d puts u h = part_stands which w d u h

-- ---- a step

-- so far, with this disk of the node
abbrev pub Stand : Seen → ℕ → Disk → Seen → Type 0
Stand M k d N =
    ((u : Uid) → WasRecorded (records_in M.nodes) M.sent u → WasRecorded (records_at k d.intents N.nodes) N.sent u) × Within M.sent N.sent

module _ (M : Seen) (k : ℕ) (C D : Uid → Type 0) (told : (u : Uid) → D u → IsDemanded M.sent u) where
  stands_at : (d : Disk) (live : Option Parts) (N : Seen) → Stand M k d N → KeepsRecords M (at k d live N)
  stands_at d live N h = subst (λ records. (u : Uid) → WasRecorded (records_in M.nodes) M.sent u →
      WasRecorded records N.sent u) (sym (same_records k d live N)) h.0

  now_told : (N : Seen) → Within M.sent N.sent → (u : Uid) → D u → IsDemanded N.sent u
  now_told N all u on = demanded_within M.sent N.sent all u (told u on)

  pub removing_walk : (e : ℕ) (v : Parts) (es : List Effect) (d : Disk) (N : Seen) → PutsOnly C D es → Stand M k d N →
      Walks (KeepsRecords M) e k es (Up (KeepsRecords M) k v) d N
  removing_walk e v [] d N puts h = stands_at d (Some v) N h
  removing_walk e v (Do w ∷ es) d N puts h = (
    λ how. stands_at (stopped how w d) None N
        ((λ u was. stopped_stands k N.nodes N.sent C D (now_told N h.1) how w d puts.0 u (h.0 u was)), h.1),
    removing_walk e v es (worked w d) N puts.1
        ((λ u was. worked_stands k N.nodes N.sent C D (now_told N h.1) w d puts.0 u (h.0 u was)), h.1),
  )
  removing_walk e v (Say b ∷ es) d N puts h = removing_walk e v es d (said e (b ∷ []) N) puts.1 h
  removing_walk e v (Send to m ∷ es) d N puts h = λ more quiet.
      let p : Post = record { from = k; to = to; message = m } in
      removing_walk e v es d (said e more (posted p N)) puts.1
      ((λ u was. posted_stands (records_at k d.intents N.nodes) N.sent p u (h.0 u was)), λ q there. inr (h.1 q there))

-- a step from where this node was so
module _ (k : ℕ) (d : Disk) (live : Option Parts) (M : Seen) where
  pub stand_here : Stand (at k d live M) k d M
  stand_here = (
    λ u was. subst (λ records. WasRecorded records M.sent u) (same_records k d live M) was,
    λ p there. there,
  )

  pub stop_keeps : (e : ℕ) → KeepsRecords (at k d live M) (halted e k d M)
  stop_keeps e u was = subst (λ records. WasRecorded records M.sent u) (same_records k d live M ∙ sym (same_records k d None M)) was
