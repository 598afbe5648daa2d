-- Which bindings and incarnations fit 32 bits: those of a message, of what a line says, and of what an effect says or sends.
use Rattle.arj_law_parts.proofs.Words
use Words.{⊤, ◌++◌, ◌<◌, ℕ, Bool, true, false, cond, List, [], ◌∷◌, Option, Some, None, nat_lt, AllByRecursion}
use Words.{Ask, Asked, Binding, Body, BoundReply, Cause, ConfirmedReply, Head, InvokedReply, Message}
use Words.{RecordedReply, Reply, VotedReply, What, answers, asked_by, asks, binding_less, differs, request, response, two_bindings}
use Words.{two_incs, Do, Effect, Say, Send}
use Words.ask
use Words.body
use Words.bound
use Words.cause
use Words.confirmed
use Words.invoked
use Words.prepared
use Words.recorded
use Words.voted
use Words.what
use Rattle.arj_journal.specs.LineForm.{DifferenceInForm}
use Rattle.arj_law_promise.proofs.Terms.{all_append}
use Rattle.arj_msg.specs.Fields.{BindingFits}
use Rattle.arj_msg.specs.InForm.{IsLong, IsObject, IsShort, WhatFits}
use Rattle.arj_text.specs.Fields.{BindingInForm, NumberInForm}

-- ---- messages

-- the version of a state that a store has has 64 bits
abbrev pub VersionFits : Reply → Type 0
VersionFits (Reply.Prepared (prepared.Old x v)) = IsLong v
VersionFits r = ⊤

-- bindings and incarnations of a request fit
abbrev pub AskNums : Ask → Type 0
AskNums (ask.Bind x include avoid) = BindingFits avoid
AskNums (ask.Activate b st) = BindingFits b
AskNums (ask.Record x b i g) = BindingFits b × IsShort i × IsShort g
AskNums (ask.Invoke x b i ends op) = BindingFits b × IsShort i
AskNums (ask.Vote i ties ends) = IsShort i × AllByRecursion (λ (e : ℕ × Binding). BindingFits e.1) ties
AskNums (ask.Confirm grants excluded included) = AllByRecursion (λ (g : ℕ × ℕ). IsShort g.1) grants
AskNums a = ⊤

-- so do those of an answer to a Bind
abbrev pub BoundNums : BoundReply → Type 0
BoundNums (bound.Live b server i g stores) = BindingFits b × IsShort i × IsShort g
BoundNums (bound.Make b server g stores) = BindingFits b × IsShort g
BoundNums (bound.Write g stores) = IsShort g
BoundNums (bound.Conflict holder m) = ⊤

-- and what is said to differ
abbrev pub NotedNums : RecordedReply → Type 0
NotedNums recorded.Yes = ⊤
NotedNums (recorded.Changed w) = WhatFits w

abbrev pub InvokedNums : InvokedReply → Type 0
InvokedNums (invoked.Changed w) = WhatFits w
InvokedNums r = ⊤

abbrev pub VotedNums : VotedReply → Type 0
VotedNums (voted.Yes states) = ⊤
VotedNums (voted.Changed w) = WhatFits w

abbrev pub ConfirmedNums : ConfirmedReply → Type 0
ConfirmedNums (confirmed.Changed w) = WhatFits w
ConfirmedNums r = ⊤

-- so it is of any answer
abbrev pub ReplyNums : Reply → Type 0
ReplyNums (Reply.Bound r) = BoundNums r
ReplyNums (Reply.Activated i) = IsShort i
ReplyNums (Reply.Noted r) = NotedNums r
ReplyNums (Reply.Invoked r) = InvokedNums r
ReplyNums (Reply.Voted r) = VotedNums r
ReplyNums (Reply.Confirmed r) = ConfirmedNums r
ReplyNums r = ⊤

abbrev pub AskedNums : Option (Head × Ask) → Type 0
AskedNums None = ⊤
AskedNums (Some a) = AskNums a.1

abbrev pub AnsweredNums : Option (Asked × Reply) → Type 0
AnsweredNums None = ⊤
AnsweredNums (Some a) = ReplyNums a.1

-- and of a message
abbrev pub MessageNums : Message → Type 0
MessageNums m = AskedNums (asks m) × AnsweredNums (answers m)

pub request_nums : (h : Head) (a : Ask) → AskNums a → MessageNums (request h a)
request_nums h (ask.Bind x i avoid) its = (its, tt)
request_nums h (ask.Load x) its = (its, tt)
request_nums h (ask.Activate b st) its = (its, tt)
request_nums h (ask.Record x b i g) its = (its, tt)
request_nums h (ask.Invoke x b i ends o) its = (its, tt)
request_nums h (ask.Vote i ties ends) its = (its, tt)
request_nums h (ask.Prepare states) its = (its, tt)
request_nums h (ask.Confirm g e i) its = (its, tt)

pub response_nums : (a : Asked) (r : Reply) → ReplyNums r → MessageNums (response a r)
response_nums a (Reply.Bound r) its = (tt, its)
response_nums a (Reply.Loaded r) its = (tt, its)
response_nums a (Reply.Activated i) its = (tt, its)
response_nums a (Reply.Noted r) its = (tt, its)
response_nums a (Reply.Invoked r) its = (tt, its)
response_nums a (Reply.Voted r) its = (tt, its)
response_nums a (Reply.Prepared r) its = (tt, its)
response_nums a (Reply.Confirmed r) its = (tt, its)

-- ---- what differs

pub incs_differ : (i j : ℕ) → IsShort i → IsShort j → WhatFits (two_incs i j)
incs_differ i j a b = by (nat_lt j i)
  where
    by : (c : Bool) → WhatFits (cond c (what.Inc j i) (what.Inc i j))
    by true = (b, a)
    by false = (a, b)

pub bindings_differ : (b c : Binding) → BindingFits b → BindingFits c → WhatFits (two_bindings b c)
bindings_differ b c x y = by (binding_less c b)
  where
    by : (q : Bool) → WhatFits (what.Bind (cond q c b) (cond q b c))
    by true = (y, x)
    by false = (x, y)

pub difference_fits : (w : What) → WhatFits w → DifferenceInForm (differs w)
difference_fits (what.Inc had now) its = (word had its.0, word now its.1)
  where
    word : (n : ℕ) → n < 4294967296 → n < 4294967296
    word n is = is
difference_fits (what.Bind had now) its = its

-- ---- lines

-- a cause of an abort that says what changed, or a version
abbrev pub CauseNums : Cause → Type 0
CauseNums (cause.Changed n d) = DifferenceInForm d
CauseNums (cause.Old n x v) = NumberInForm v
CauseNums c = ⊤

-- Of a line: what changed is in form, and so is a binding, of an object.
abbrev pub BodyNums : Body → Type 0
BodyNums (body.Changed l n d) = DifferenceInForm d
BodyNums (body.Aborted l c) = CauseNums c
BodyNums (body.Bound x b n) = IsObject x × BindingInForm b
BodyNums (body.Active n x b) = IsObject x × BindingInForm b
BodyNums b = ⊤

-- ---- effects

abbrev pub EffectNums : Effect → Type 0
EffectNums (Say b) = BodyNums b
EffectNums (Send to m) = MessageNums m
EffectNums (Do w) = ⊤

abbrev pub AllNums : List Effect → Type 0
AllNums outs = AllByRecursion (EffectNums) outs

pub both_nums : (es fs : List Effect) → AllNums es → AllNums fs → AllNums (es ++ fs)
both_nums es fs a b = all_append (EffectNums) es fs a b

pub answer_nums : (to : ℕ) (h : Head) (r : Reply) → ReplyNums r → AllNums (Send to (response (asked_by h) r) ∷ [])
answer_nums to h r its = (response_nums (asked_by h) r its, tt)
