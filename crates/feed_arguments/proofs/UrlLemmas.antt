-- Lemmas on the URL of a feed.
use Rattle.std.proofs.Common.{◌≡◌, ◌≢◌, ◌⊎◌, refl, sym, ap, ◌∙◌, subst, inl, inr, ◌++◌, ◌∷◌, [], List, ℕ, ◌<◌, ◌+◌, length, append_assoc, append-nil, map, suc, zero, arith, lit<}
use Rattle.std.specs.Prelude.{codes, slice_index, ◌==◌, not, true, false}
use Rattle.std.specs.List.{list_all}
use Rattle.std.proofs.lemmas.Bool.{and_parts as both_true}
use Rattle.std.proofs.lemmas.Bool.Decides.{nat_tests}
use Rattle.feed_arguments.proofs.AddressLemmas.{same_cut, not_in, digits_lack}
use Rattle.feed_arguments.specs.Addresses.{IsAddress}
use Rattle.std.specs.Char.{to_ascii_lowercase}
use Rattle.feed_arguments.specs.declared.url.FeedUrl.{FeedUrl}
use Rattle.feed_arguments.specs.declared.url.UrlFault.{UrlFault}
use Rattle.feed_arguments.specs.declared.url.UrlFault.TheVariants.{NotHttp, Tls, Rest, NoPath, User, BadServer, NoContest}
use Rattle.feed_arguments.specs.FeedUrl.{Has, Lacks, IsBehind, IsCut, IsCutUrl, IsFeedUrl, RefusesUrl, IsWithout, IsFeed, IsEnd, IsSegment, IsFeedPath, IsServer, event_feed, is_url_host, plain_port}

-- a byte that the rest lacks, too
lacks_rest : (c x : ℕ) (xs : List ℕ) → Lacks c (x ∷ xs) → Lacks c xs
lacks_rest c x xs lacks i inside e = lacks (suc i) (omega (arith, inside)) e

lacks_first : (c x : ℕ) (xs : List ℕ) → Lacks c (x ∷ xs) → x ≢ c
lacks_first c x xs lacks e = lacks 0 (omega arith) e

-- a text is cut at the first such byte in one way
pub first_cut : (c : ℕ) (xs ys us vs : List ℕ) → xs ++ c ∷ ys ≡ us ++ c ∷ vs → Lacks c xs → Lacks c us
    → (xs ≡ us) × (ys ≡ vs)
first_cut c [] ys [] vs e a b = (refl, cc)
first_cut c [] ys (u ∷ us) vs e a b = absurd (lacks_first c u us b (cc))
first_cut c (x ∷ xs) ys [] vs e a b = absurd (lacks_first c x xs a (cc))
first_cut c (x ∷ xs) ys (u ∷ us) vs e a b =
    let first : x ≡ u = cc in
    let rest : xs ++ c ∷ ys ≡ us ++ c ∷ vs = cc in
    let same = first_cut c xs ys us vs rest (lacks_rest c x xs a) (lacks_rest c u us b) in
    ((λ k. first k ∷ same.0 k), same.1)

-- the server and the path behind it are cut in one way
pub same_parts : (rest server path other_server other_path : List ℕ) → IsCut rest server path
    → IsCut rest other_server other_path → (server ≡ other_server) × (path ≡ other_path)
same_parts rest server path other_server other_path one other =
    let left : rest ≡ server ++ 47 ∷ one.rooted.0 = one.is ∙ ap (λ p. server ++ p) one.rooted.1 in
    let right : rest ≡ other_server ++ 47 ∷ other.rooted.0 = other.is ∙ ap (λ p. other_server ++ p) other.rooted.1 in
    let same = first_cut 47 server one.rooted.0 other_server other.rooted.0 (sym left ∙ right) one.before other.before in
    (same.0, one.rooted.1 ∙ ap (λ l. 47 ∷ l) same.1 ∙ sym other.rooted.1)

-- a rest without a slash has no path
pub no_path : (rest server path : List ℕ) → Lacks 47 rest → IsCut rest server path → ⊥
no_path rest server path lacks is =
    not_in 47 rest server is.rooted.0 lacks (is.is ∙ ap (λ p. server ++ p) is.rooted.1)

-- ---- the path

pub lacks_nil : (c : ℕ) → Lacks c []
lacks_nil c i inside e = absurd (omega (arith, inside))

lacks_more : (c x : ℕ) (xs : List ℕ) → x ≢ c → Lacks c xs → Lacks c (x ∷ xs)
lacks_more c x xs other lacks zero inside e = other e
lacks_more c x xs other lacks (suc i) inside e = lacks i (omega (arith, inside)) e

differs : (x c : ℕ) → not (x == c) ≡ true → x ≢ c
differs x c h e = absurd (grind (arith, nat_tests))

lacks_by : (c : ℕ) (xs : List ℕ) → list_all (λ b. not (b == c)) xs ≡ true → Lacks c xs
lacks_by c [] all = lacks_nil c
lacks_by c (x ∷ xs) all =
    let both = both_true (not (x == c)) (list_all (λ b. not (b == c)) xs) all in
    lacks_more c x xs (differs x c both.0) (lacks_by c xs both.1)

feed_lacks : Lacks 47 event_feed
feed_lacks = lacks_by 47 event_feed refl

-- a text that lacks a slash ends in no feed; one whose last segment is another one neither
pub no_feed_without : (text : List ℕ) → Lacks 47 text → (front : List ℕ) → text ≢ front ++ 47 ∷ event_feed
no_feed_without text lacks front e = not_in 47 text front event_feed lacks e

pub no_feed_behind : (text before last : List ℕ) → text ≡ before ++ 47 ∷ last → Lacks 47 last → last ≢ event_feed
    → (front : List ℕ) → text ≢ front ++ 47 ∷ event_feed
no_feed_behind text before last is lacks other front e =
    other (same_cut 47 before last front event_feed (sym is ∙ e) lacks feed_lacks).1

-- a base with the segment of all contests, and a contest
abbrev whole : List ℕ → List ℕ → List ℕ
whole base contest = (base ++ 47 ∷ codes "contests") ++ 47 ∷ contest

module _ (base contest : List ℕ) (is : IsSegment contest) where
  ends_in_no_slash : (front : List ℕ) → whole base contest ≢ front ++ 47 ∷ []
  ends_in_no_slash front e =
      is.some (same_cut 47 (base ++ 47 ∷ codes "contests") contest front [] e is.one (lacks_nil 47)).1

  feed_ends_in_no_slash : (front : List ℕ) → whole base contest ++ 47 ∷ event_feed ≢ front ++ 47 ∷ []
  feed_ends_in_no_slash front e =
      let same = (same_cut 47 (whole base contest) event_feed front [] e feed_lacks (lacks_nil 47)).1 in absurd (cc)

  ends_in_no_feed : (front : List ℕ) → whole base contest ≢ front ++ 47 ∷ event_feed
  ends_in_no_feed front e =
      is.no_feed (same_cut 47 (base ++ 47 ∷ codes "contests") contest front event_feed e is.one feed_lacks).1

  -- what is left without a slash at the end
  unended : (end left text feed : List ℕ) → IsFeed feed → IsEnd end → text ≡ (whole base contest ++ feed) ++ end
      → IsWithout (47 ∷ []) text left → left ≡ whole base contest ++ feed
  unended end left text feed feed_is (inr e) path (inl cut) =
      (same_cut 47 left [] (whole base contest ++ feed) [] (sym cut ∙ path ∙ ap (λ l. (whole base contest ++ feed) ++ l) e)
      (lacks_nil 47) (lacks_nil 47)).0
  unended end left text feed feed_is (inr e) path (inr kept) =
      absurd (kept.1 (whole base contest ++ feed) (path ∙ ap (λ l. (whole base contest ++ feed) ++ l) e))
  unended end left text feed feed_is (inl e) path (inr kept) =
      sym kept.0 ∙ path ∙ ap (λ l. (whole base contest ++ feed) ++ l) e ∙ append-nil (whole base contest ++ feed)
  unended end left text feed (inl none) (inl e) path (inl cut) =
      absurd (ends_in_no_slash left (sym (path ∙ ap (λ l. (whole base contest ++ feed) ++ l) e
      ∙ append-nil (whole base contest ++ feed) ∙ ap (λ l. whole base contest ++ l) none ∙ append-nil (whole base contest))
      ∙ cut))
  unended end left text feed (inr one) (inl e) path (inl cut) =
      absurd (feed_ends_in_no_slash left (sym (path ∙ ap (λ l. (whole base contest ++ feed) ++ l) e
      ∙ append-nil (whole base contest ++ feed) ∙ ap (λ l. whole base contest ++ l) one)
      ∙ cut))

  -- and without the feed
  unfed : (left text feed : List ℕ) → IsFeed feed → text ≡ whole base contest ++ feed
      → IsWithout (47 ∷ event_feed) text left → left ≡ whole base contest
  unfed left text feed (inl none) path (inl cut) =
      absurd (ends_in_no_feed left (sym (path ∙ ap (λ l. whole base contest ++ l) none ∙ append-nil (whole base contest)) ∙ cut))
  unfed left text feed (inl none) path (inr kept) =
      sym kept.0 ∙ path ∙ ap (λ l. whole base contest ++ l) none ∙ append-nil (whole base contest)
  unfed left text feed (inr one) path (inl cut) =
      (same_cut 47 left event_feed (whole base contest) event_feed
      (sym cut ∙ path ∙ ap (λ l. whole base contest ++ l) one) feed_lacks feed_lacks).0
  unfed left text feed (inr one) path (inr kept) =
      absurd (kept.1 (whole base contest) (path ∙ ap (λ l. whole base contest ++ l) one))

-- of the path of a feed, what is left without its end and without the feed
pub left_of : (path middle left base contest : List ℕ) → IsFeedPath path base contest
    → IsWithout (47 ∷ []) path middle → IsWithout (47 ∷ event_feed) middle left → left ≡ whole base contest
left_of path middle left base contest is without_end without_feed =
    let all : List ℕ = base ++ 47 ∷ codes "contests" in
    let spelled : path ≡ (whole base contest ++ is.feed) ++ is.end =
    is.is ∙ sym (append_assoc all ((47 ∷ contest) ++ is.feed) is.end)
    ∙ ap (λ l. l ++ is.end) (sym (append_assoc all (47 ∷ contest) is.feed)) in
    let ended = unended base contest is.contest_is is.end middle path is.feed is.feed_is is.end_is spelled without_end in
    unfed base contest is.contest_is left middle is.feed is.feed_is ended without_feed

-- a path is what is left of it, with what was taken away
end_of : (text left : List ℕ) → IsWithout (47 ∷ []) text left → (end : List ℕ) × (text ≡ left ++ end) × IsEnd end
end_of text left (inl e) = (47 ∷ [], e, inr refl)
end_of text left (inr kept) = ([], kept.0 ∙ sym (append-nil left), inl refl)

feed_of : (text left : List ℕ) → IsWithout (47 ∷ event_feed) text left
    → (feed : List ℕ) × (text ≡ left ++ feed) × IsFeed feed
feed_of text left (inl e) = (47 ∷ event_feed, e, inr refl)
feed_of text left (inr kept) = ([], kept.0 ∙ sym (append-nil left), inl refl)

pub path_of : (path middle left base contest : List ℕ) → IsWithout (47 ∷ []) path middle
    → IsWithout (47 ∷ event_feed) middle left → left ≡ whole base contest → IsSegment contest
    → IsFeedPath path base contest
path_of path middle left base contest without_end without_feed is segment =
    let ends = end_of path middle without_end in
    let feeds = feed_of middle left without_feed in
    let all : List ℕ = base ++ 47 ∷ codes "contests" in
    let middle_is : middle ≡ whole base contest ++ feeds.0 = feeds.1 ∙ ap (λ l. l ++ feeds.0) is in
    record {
      feed = feeds.0;
      end = ends.0;
      is = ends.1 ∙ ap (λ l. l ++ ends.0) (middle_is ∙ append_assoc all (47 ∷ contest) feeds.0)
          ∙ append_assoc all ((47 ∷ contest) ++ feeds.0) ends.0;
      contest_is = segment;
      feed_is = feeds.2;
      end_is = ends.2;
    }

contests_lack : Lacks 47 (codes "contests")
contests_lack = lacks_by 47 (codes "contests") refl

-- what is left is no base with a contest
module _ (path middle left base contest : List ℕ) (is : IsFeedPath path base contest)
    (without_end : IsWithout (47 ∷ []) path middle) (without_feed : IsWithout (47 ∷ event_feed) middle left) where
  left_is : left ≡ whole base contest
  left_is = left_of path middle left base contest is without_end without_feed

  pub no_contest : Lacks 47 left → ⊥
  no_contest lacks = not_in 47 left (base ++ 47 ∷ codes "contests") contest lacks left_is

  pub same_contest : (before last : List ℕ) → left ≡ before ++ 47 ∷ last → Lacks 47 last
      → (before ≡ base ++ 47 ∷ codes "contests") × (last ≡ contest)
  same_contest before last cut lacks =
      same_cut 47 before last (base ++ 47 ∷ codes "contests") contest (sym cut ∙ left_is) lacks is.contest_is.one

  pub not_empty_contest : (before last : List ℕ) → left ≡ before ++ 47 ∷ last → Lacks 47 last → last ≢ []
  not_empty_contest before last cut lacks e = is.contest_is.some (sym (same_contest before last cut lacks).1 ∙ e)

  pub not_feed_contest : (before last : List ℕ) → left ≡ before ++ 47 ∷ last → Lacks 47 last → last ≢ event_feed
  not_feed_contest before last cut lacks e = is.contest_is.no_feed (sym (same_contest before last cut lacks).1 ∙ e)

  pub has_base : (before last : List ℕ) → left ≡ before ++ 47 ∷ last → Lacks 47 last → Lacks 47 before → ⊥
  has_base before last cut lacks none =
      not_in 47 before base (codes "contests") none (same_contest before last cut lacks).0

  pub has_contests : (before last front collection : List ℕ) → left ≡ before ++ 47 ∷ last → Lacks 47 last
      → before ≡ front ++ 47 ∷ collection → Lacks 47 collection → collection ≡ codes "contests"
  has_contests before last front collection cut lacks again none =
      (same_cut 47 front collection base (codes "contests")
      (sym again ∙ (same_contest before last cut lacks).0) none contests_lack).1

-- ---- the server

-- an address has one host
pub same_host : (text : List ℕ) (one other : List ℕ × ℕ) → IsAddress text one → IsAddress text other → one.0 ≡ other.0
same_host text one other a b =
    (same_cut 58 one.0 a.digits other.0 b.digits (sym a.is ∙ b.is) (digits_lack a.digits a.port.digits)
    (digits_lack b.digits b.port.digits)).0

-- a text that is no host alone, and whose host before the port is none, is no server
pub no_server : (text found : List ℕ) (its : ℕ) (host : List ℕ) (port : ℕ) → IsAddress text (found, its)
    → is_url_host text ≡ false → is_url_host found ≡ false → IsServer text host port → ⊥
no_server text found its host port address alone bad is = by is.is
  where
    by : IsAddress text (host, port) ⊎ ((text ≡ host) × (port ≡ plain_port)) → ⊥
    by (inl named) =
        let yes : is_url_host found ≡ true =
        ap is_url_host (same_host text (found, its) (host, port) address named) ∙ is.host_is in absurd (cc)
    by (inr only) = let yes : is_url_host text ≡ true = ap is_url_host only.0 ∙ is.host_is in absurd (cc)

-- ---- the whole URL

-- what stands before the colon, and behind the scheme
same_scheme : (one other text rest further : List ℕ) → IsBehind one text rest → IsBehind other text further
    → (map to_ascii_lowercase one ≡ map to_ascii_lowercase other) × (rest ≡ further)
same_scheme one other text rest further a b =
    let same = first_cut 58 a.written (47 ∷ 47 ∷ rest) b.written (47 ∷ 47 ∷ further) (sym a.is ∙ b.is) a.letters b.letters
    in
    let slashes : 47 ∷ 47 ∷ rest ≡ 47 ∷ 47 ∷ further = same.1 in
    (sym a.same ∙ ap (map to_ascii_lowercase) same.0 ∙ b.same, cc)

lacks_and_has : (c : ℕ) (text : List ℕ) → Lacks c text → Has c text → ⊥
lacks_and_has c text lacks has = lacks has.0 has.1 has.2

-- the server and the path of a URL, in one way
same_url : (text server path : List ℕ) (url : FeedUrl) → IsCutUrl text server path → (is : IsFeedUrl text url)
    → (server ≡ is.server) × (path ≡ is.path)
same_url text server path url cut is =
    let rests = (same_scheme (codes "http") (codes "http") text cut.rest is.rest cut.behind is.behind).1 in
    same_parts is.rest server path is.server is.path (subst (λ r. IsCut r server path) rests cut.cut) is.cut

-- a text that is refused is no URL of a feed
pub no_url : (text : List ℕ) (fault : UrlFault) (url : FeedUrl) → RefusesUrl text fault → IsFeedUrl text url → ⊥
no_url text Tls url why is =
    let same = (same_scheme (codes "https") (codes "http") text why.0 is.rest why.1 is.behind).0 in absurd (cc)
no_url text NotHttp url why is = why.0 is.rest is.behind
no_url text Rest url (rest, behind, inl has) is =
    let same = (same_scheme (codes "http") (codes "http") text rest is.rest behind is.behind).1 in
    lacks_and_has 63 is.rest is.plain.no_query (subst (Has 63) same has)
no_url text Rest url (rest, behind, inr has) is =
    let same = (same_scheme (codes "http") (codes "http") text rest is.rest behind is.behind).1 in
    lacks_and_has 35 is.rest is.plain.no_fragment (subst (Has 35) same has)
no_url text NoPath url why is =
    let same = (same_scheme (codes "http") (codes "http") text why.0 is.rest why.1 is.behind).1 in
    no_path is.rest is.server is.path (subst (Lacks 47) same why.3) is.cut
no_url text User url why is =
    let same = (same_url text why.0 why.1 url why.2 is).0 in
    why.3 url.host.now url.port (subst (λ s. IsServer s url.host.now url.port) (sym same) is.server_is)
no_url text BadServer url why is =
    let same = (same_url text why.0 why.1 url why.2 is).0 in
    why.3 url.host.now url.port (subst (λ s. IsServer s url.host.now url.port) (sym same) is.server_is)
no_url text NoContest url why is =
    let same = (same_url text why.0 why.1 url why.2 is).1 in
    why.3 url.base.now url.contest.now (subst (λ p. IsFeedPath p url.base.now url.contest.now) (sym same) is.path_is)

-- why a URL is refused whose server is none
pub refuses_server : (text server path : List ℕ) (fault : UrlFault) → IsCutUrl text server path
    → ((host : List ℕ) (port : ℕ) → ¬ (IsServer server host port))
    → ((fault ≡ User) × Has 64 server) ⊎ ((fault ≡ BadServer) × Lacks 64 server) → RefusesUrl text fault
refuses_server text server path fault cut none (inl (is, has)) =
    subst (RefusesUrl text) (sym is) (server, path, cut, none, has)
refuses_server text server path fault cut none (inr (is, lacks)) =
    subst (RefusesUrl text) (sym is) (server, path, cut, none, lacks)
