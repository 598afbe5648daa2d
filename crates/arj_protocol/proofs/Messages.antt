-- Requests and answers are read back from their messages.
use Rattle.std.proofs.Common.{◌≡◌, refl, Some, None}
use Rattle.arj_protocol.specs.Words.ask
use Rattle.arj_protocol.specs.Words.{Head, Asked, Ask, asks, request}
use Rattle.arj_protocol.specs.Ask.{Reply, answers, response}

pub request_reads_back : (h : Head) (a : Ask) → asks (request h a) ≡ Some (h, a)
request_reads_back h (ask.Bind x include avoid) = refl
request_reads_back h (ask.Load x) = refl
request_reads_back h (ask.Activate b s) = refl
request_reads_back h (ask.Record x b i g) = refl
request_reads_back h (ask.Invoke x b i ends op) = refl
request_reads_back h (ask.Vote i objects ends) = refl
request_reads_back h (ask.Prepare states) = refl
request_reads_back h (ask.Confirm objects excluded included) = refl

pub response_reads_back : (a : Asked) (r : Reply) → answers (response a r) ≡ Some (a, r)
response_reads_back a (Reply.Bound r) = refl
response_reads_back a (Reply.Loaded r) = refl
response_reads_back a (Reply.Activated i) = refl
response_reads_back a (Reply.Noted r) = refl
response_reads_back a (Reply.Invoked r) = refl
response_reads_back a (Reply.Voted r) = refl
response_reads_back a (Reply.Prepared r) = refl
response_reads_back a (Reply.Confirmed r) = refl

pub response_asks_nothing : (a : Asked) (r : Reply) → asks (response a r) ≡ None
response_asks_nothing a (Reply.Bound r) = refl
response_asks_nothing a (Reply.Loaded r) = refl
response_asks_nothing a (Reply.Activated i) = refl
response_asks_nothing a (Reply.Noted r) = refl
response_asks_nothing a (Reply.Invoked r) = refl
response_asks_nothing a (Reply.Voted r) = refl
response_asks_nothing a (Reply.Prepared r) = refl
response_asks_nothing a (Reply.Confirmed r) = refl
