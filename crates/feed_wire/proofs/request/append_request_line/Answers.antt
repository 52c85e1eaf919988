use Rattle.std.proofs.Common.{◌++◌, ◌∙◌, codes}
use Rattle.std.specs.Option.{option_copied}
use Rattle.feed_text.proofs.Beginnings.{Begins-append}
use Rattle.feed_wire.specs.RequestText.{feed_path, since_query}
use Rattle.feed_wire.proofs.TextLemmas.{appended, begun}
use Rattle.feed_wire.proofs.request.append_request_line.Goals as goal

pub returns-in_err-append_path-clause-kept : goal.returns-in_err-append_path-clause-kept
returns-in_err-append_path-clause-kept c =
    Begins-append c.args.out.now.items (codes "GET ") c.append_path.new.out.items
    c.extend_from_slice.new.self.items c.in_ok-extend_from_slice.ensures.items
    c.append_path.ensures.kept

pub returns-in_err-append_since-clause-kept : goal.returns-in_err-append_since-clause-kept
returns-in_err-append_since-clause-kept c =
    let from = c.args.out.now.items in
    let path = feed_path c.args.place.now.base c.args.place.now.contest in
    let get = codes "GET " in
    let second = appended from c.extend_from_slice.new.self.items c.append_path.new.out.items get path
    c.in_ok-extend_from_slice.ensures.items c.in_ok-append_path.ensures.ok in
    Begins-append from (get ++ path) c.append_since.new.out.items c.append_path.new.out.items second
    c.append_since.ensures.kept

pub returns-in_err-extend_from_slice-2-clause-kept :
    goal.returns-in_err-extend_from_slice-2-clause-kept
returns-in_err-extend_from_slice-2-clause-kept c =
    let from = c.args.out.now.items in
    let path = feed_path c.args.place.now.base c.args.place.now.contest in
    let get = codes "GET " in
    let second = appended from c.extend_from_slice.new.self.items c.append_path.new.out.items get path
    c.in_ok-extend_from_slice.ensures.items c.in_ok-append_path.ensures.ok in
    let since = since_query (option_copied c.args.since) in
    let third = appended from c.append_path.new.out.items c.append_since.new.out.items (get ++ path)
    since second c.in_ok-append_since.ensures.ok in
    begun from c.extend_from_slice-2.new.self.items ((get ++ path) ++ since)
    (c.in_err-extend_from_slice-2.ensures.items ∙ third)

pub returns-clause-kept : goal.returns-clause-kept
returns-clause-kept c =
    let from = c.args.out.now.items in
    let path = feed_path c.args.place.now.base c.args.place.now.contest in
    let get = codes "GET " in
    let second = appended from c.extend_from_slice.new.self.items c.append_path.new.out.items get path
    c.in_ok-extend_from_slice.ensures.items c.in_ok-append_path.ensures.ok in
    let since = since_query (option_copied c.args.since) in
    let third = appended from c.append_path.new.out.items c.append_since.new.out.items (get ++ path)
    since second c.in_ok-append_since.ensures.ok in
    let fourth = appended from c.append_since.new.out.items c.extend_from_slice-2.new.self.items
    ((get ++ path) ++ since) (codes " HTTP/1.1\r\n") third
    c.in_ok-extend_from_slice-2.ensures.items in
    begun from c.extend_from_slice-2.new.self.items
    (((get ++ path) ++ since) ++ codes " HTTP/1.1\r\n") fourth
