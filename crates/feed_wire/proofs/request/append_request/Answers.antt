use Rattle.std.proofs.Common.{◌≡◌, ◌++◌, List, ℕ, ◌∷◌, ap, ◌∙◌, codes, append_assoc}
use Rattle.std.specs.Option.{option_copied}
use Rattle.httparse.specs.Ascii.{crlf_bytes}
use Rattle.feed_wire.specs.RequestText.{lines_text, request_line, credentials_lines}
use Rattle.feed_text.proofs.Beginnings.{Begins-append}
use Rattle.feed_wire.proofs.TextLemmas.{appended, begun}
use Rattle.feed_wire.proofs.request.append_request.Goals as goal

-- lines, each with its end
ended : (a k h x y n rest : List ℕ)
    → (((a ++ n) ++ (k ++ (h ++ n))) ++ (x ++ (n ++ (y ++ n)))) ++ rest
    ≡ (a ++ n) ++ (((k ++ h) ++ n) ++ ((x ++ n) ++ ((y ++ n) ++ rest)))
ended a k h x y n rest = simp append_assoc

joined : (line host : List ℕ) (lines : List (List ℕ))
    → (((line ++ crlf_bytes) ++ (codes "Host: " ++ (host ++ crlf_bytes)))
    ++ codes "Accept: application/x-ndjson\r\nConnection: close\r\n") ++ lines_text lines
    ≡ lines_text (line ∷ (codes "Host: " ++ host) ∷ codes "Accept: application/x-ndjson"
    ∷ codes "Connection: close" ∷ lines)
joined line host lines = ended line (codes "Host: ") host (codes "Accept: application/x-ndjson")
    (codes "Connection: close") crlf_bytes (lines_text lines)

pub returns-clause-ok : goal.returns-clause-ok
returns-clause-ok c =
    let from = c.args.out.now.items in
    let host = c.args.host.now in
    let line = request_line c.args.place.now (option_copied c.args.since) in
    let lines = credentials_lines (option_copied c.args.credentials) in
    let named = codes "Host: " ++ (host ++ crlf_bytes) in
    let fixed = codes "Accept: application/x-ndjson\r\nConnection: close\r\n" in
    let second = appended from c.append_request_line.new.out.items c.append_host.new.out.items
    (line ++ crlf_bytes) named c.in_ok-append_request_line.ensures.ok
    c.in_ok-append_host.ensures.ok in
    let third = appended from c.append_host.new.out.items c.extend_from_slice.new.self.items
    ((line ++ crlf_bytes) ++ named) fixed second c.in_ok-extend_from_slice.ensures.items in
    let fourth = appended from c.extend_from_slice.new.self.items
    c.append_credentials.new.out.items (((line ++ crlf_bytes) ++ named) ++ fixed)
    (lines_text lines) third c.in_ok-append_credentials.ensures.ok in
    let whole = fourth ∙ ap (λ l. from ++ l) (joined line host lines) in
    appended from c.append_credentials.new.out.items c.extend_from_slice-2.new.self.items
    (lines_text (line ∷ (codes "Host: " ++ host) ∷ codes "Accept: application/x-ndjson"
    ∷ codes "Connection: close" ∷ lines)) crlf_bytes whole c.in_ok-extend_from_slice-2.ensures.items

pub returns-in_err-append_host-clause-kept : goal.returns-in_err-append_host-clause-kept
returns-in_err-append_host-clause-kept c =
    let line = request_line c.args.place.now (option_copied c.args.since) in
    Begins-append c.args.out.now.items (line ++ crlf_bytes) c.append_host.new.out.items
    c.append_request_line.new.out.items c.in_ok-append_request_line.ensures.ok
    c.append_host.ensures.kept

pub returns-in_err-extend_from_slice-clause-kept : goal.returns-in_err-extend_from_slice-clause-kept
returns-in_err-extend_from_slice-clause-kept c =
    let from = c.args.out.now.items in
    let host = c.args.host.now in
    let line = request_line c.args.place.now (option_copied c.args.since) in
    let named = codes "Host: " ++ (host ++ crlf_bytes) in
    let second = appended from c.append_request_line.new.out.items c.append_host.new.out.items
    (line ++ crlf_bytes) named c.in_ok-append_request_line.ensures.ok
    c.in_ok-append_host.ensures.ok in
    begun from c.extend_from_slice.new.self.items ((line ++ crlf_bytes) ++ named)
    (c.in_err-extend_from_slice.ensures.items ∙ second)

pub returns-in_err-append_credentials-clause-kept :
    goal.returns-in_err-append_credentials-clause-kept
returns-in_err-append_credentials-clause-kept c =
    let from = c.args.out.now.items in
    let host = c.args.host.now in
    let line = request_line c.args.place.now (option_copied c.args.since) in
    let named = codes "Host: " ++ (host ++ crlf_bytes) in
    let second = appended from c.append_request_line.new.out.items c.append_host.new.out.items
    (line ++ crlf_bytes) named c.in_ok-append_request_line.ensures.ok
    c.in_ok-append_host.ensures.ok in
    let fixed = codes "Accept: application/x-ndjson\r\nConnection: close\r\n" in
    let third = appended from c.append_host.new.out.items c.extend_from_slice.new.self.items
    ((line ++ crlf_bytes) ++ named) fixed second c.in_ok-extend_from_slice.ensures.items in
    Begins-append from (((line ++ crlf_bytes) ++ named) ++ fixed) c.append_credentials.new.out.items
    c.extend_from_slice.new.self.items third c.append_credentials.ensures.kept

pub returns-in_err-extend_from_slice-2-clause-kept :
    goal.returns-in_err-extend_from_slice-2-clause-kept
returns-in_err-extend_from_slice-2-clause-kept c =
    let from = c.args.out.now.items in
    let host = c.args.host.now in
    let line = request_line c.args.place.now (option_copied c.args.since) in
    let named = codes "Host: " ++ (host ++ crlf_bytes) in
    let second = appended from c.append_request_line.new.out.items c.append_host.new.out.items
    (line ++ crlf_bytes) named c.in_ok-append_request_line.ensures.ok
    c.in_ok-append_host.ensures.ok in
    let fixed = codes "Accept: application/x-ndjson\r\nConnection: close\r\n" in
    let third = appended from c.append_host.new.out.items c.extend_from_slice.new.self.items
    ((line ++ crlf_bytes) ++ named) fixed second c.in_ok-extend_from_slice.ensures.items in
    let lines = credentials_lines (option_copied c.args.credentials) in
    let fourth = appended from c.extend_from_slice.new.self.items
    c.append_credentials.new.out.items (((line ++ crlf_bytes) ++ named) ++ fixed)
    (lines_text lines) third c.in_ok-append_credentials.ensures.ok in
    begun from c.extend_from_slice-2.new.self.items
    ((((line ++ crlf_bytes) ++ named) ++ fixed) ++ lines_text lines)
    (c.in_err-extend_from_slice-2.ensures.items ∙ fourth)

pub returns-clause-kept : goal.returns-clause-kept
returns-clause-kept c = begun _ _ _ (returns-clause-ok c)
