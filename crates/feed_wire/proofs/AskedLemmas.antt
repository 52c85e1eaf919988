-- A request is read in one way.
use Rattle.std.proofs.Common.{◌≡◌, ℕ, List, [], sym, ap, ap₂, ◌∙◌, refl, subst, Option, length, not, ◌||◌, ◌==◌, is_some, codes}
use Rattle.std.specs.Prelude.{slice_index, if◌then◌else◌}
use Rattle.httparse.specs.Grammar.{RequestHead}
use Rattle.httparse.proofs.GrammarLemmas.{request_unique}
use Rattle.http_uri.specs.declared.uri.Uri.{Uri as Target}
use Rattle.http_uri.specs.Uri.{Spells, uri_path, uri_query, uri_scheme, uri_authority, uri_data}
use Rattle.http_uri.specs.Grammar.{path_of, query_of}
use Rattle.http_uri.proofs.Theorems.{Spells_unique}
use Rattle.feed_wire.specs.declared.refusal.Refusal.TheVariants.{LargeHead, Unreadable, NotGet, OtherPath, NothingPublished, TokenNotHeld}
use Rattle.feed_wire.specs.Heads.{BeginsWithRequest, IsTooLargeRequest}
use Rattle.feed_wire.specs.Asked.{Asked, refused, feed, Asks, HasNoRequest, Requests, since_token}
use Rattle.feed_wire.specs.AskedFor.{AsksBy}
use Rattle.feed_wire.specs.RequestText.{feed_path}

-- a whole head whose target is no path, or spells no URI
pub no_request : (bytes : List ℕ) (head : RequestHead) (rest : List ℕ)
    → BeginsWithRequest bytes head rest
    → ((target : Target) → slice_index head.target 0 ≡ 47 → Spells head.target target → ⊥)
    → (¬ (IsTooLargeRequest bytes)) × HasNoRequest bytes
no_request bytes head rest begins never = (
  λ large. large.1 head rest begins,
  λ other target is. let same : other ≡ head =
      (request_unique bytes other head is.rest rest is.begins.reads begins.reads).0 in
      never target (ap (λ h. slice_index h.target 0) (sym same) ∙ is.is_path)
      (rw same at is.spells),
)

-- what a whole head and its target request
pub requests : (bytes : List ℕ) (head : RequestHead) (rest method path text : List ℕ) (minor : ℕ)
    (target : Target) (since : Option (List ℕ))
    → BeginsWithRequest bytes head rest
    → text ≡ head.target → slice_index text 0 ≡ 47 → Spells text target → method ≡ head.method
    → uri_path target ≡ path → minor ≡ head.minor → since ≡ since_token (uri_query target)
    → Requests bytes method path minor since
requests bytes head rest method path text minor target since begins is_text is_path spells is_method
    at_path is_minor is_since = record {
      head = head;
      target = target;
      is_request = record {
        rest = rest;
        begins = begins;
        is_path = ap (λ t. slice_index t 0)
            (sym is_text) ∙ is_path;
        spells = rw is_text at spells;
      };
      method_is = sym is_method;
      path_is = at_path;
      minor_is = sym is_minor;
      since_is = sym is_since;
    }

-- what such a head asks for by its method and its target
pub asks_by : (bytes contest method text : List ℕ) (head : RequestHead) (rest : List ℕ)
    (minor : ℕ) (target : Target) (asked : Asked)
    → BeginsWithRequest bytes head rest
    → text ≡ head.target → slice_index text 0 ≡ 47 → Spells text target → method ≡ head.method
    → minor ≡ head.minor → AsksBy method target minor contest asked → Asks bytes contest asked
asks_by bytes contest method text head rest minor target (refused NotGet) begins is_text is_path
    spells is_method is_minor other = (
      method,
      uri_path target,
      other,
      (
        minor,
        since_token (uri_query target),
        requests bytes head rest method (uri_path target) text minor target _ begins is_text
            is_path spells is_method refl is_minor refl,
      ),
    )
asks_by bytes contest method text head rest minor target (refused OtherPath) begins is_text is_path
    spells is_method is_minor (get, other) = (
      uri_path target,
      other,
      (
        minor,
        since_token (uri_query target),
        requests bytes head rest (codes "GET") (uri_path target) text minor target _ begins is_text
            is_path spells (sym get ∙ is_method) refl is_minor refl,
      ),
    )
asks_by bytes contest method text head rest minor target (feed asked since) begins is_text is_path
    spells is_method is_minor (get, path, same, by_query) =
    requests bytes head rest (codes "GET") (feed_path [] contest) text asked target since begins
    is_text is_path spells (sym get ∙ is_method) path (same ∙ is_minor) by_query
asks_by bytes contest method text head rest minor target (refused refusal) begins is_text is_path
    spells is_method is_minor none = absurd none

-- ---- bytes ask for one thing

-- a request that the bytes begin with leaves nothing too large or unreadable
asks_no_large : (bytes method path : List ℕ) (minor : ℕ) (since : Option (List ℕ))
    → Requests bytes method path minor since → ¬ (IsTooLargeRequest bytes)
asks_no_large bytes method path minor since r large = large.1 r.head r.is_request.rest
    r.is_request.begins

asks_readable : (bytes method path : List ℕ) (minor : ℕ) (since : Option (List ℕ))
    → Requests bytes method path minor since → ¬ (HasNoRequest bytes)
asks_readable bytes method path minor since r none = none r.head r.target r.is_request

-- two requests at the start of the bytes are one
pub record AreOne (method path method2 path2 : List ℕ) (minor minor2 : ℕ)
    (since since2 : Option (List ℕ)) : Type 0 where
  pub methods : method ≡ method2
  pub paths : path ≡ path2
  pub minors : minor ≡ minor2
  pub sinces : since ≡ since2

one_target : (target target2 : Target) (path path2 : List ℕ) (since since2 : Option (List ℕ))
    → (uri_scheme target ≡ uri_scheme target2) × (uri_authority target ≡ uri_authority target2)
    × (uri_data target ≡ uri_data target2)
    → uri_path target ≡ path → uri_path target2 ≡ path2 → since_token (uri_query target) ≡ since
    → since_token (uri_query target2) ≡ since2 → (path ≡ path2) × (since ≡ since2)
one_target target target2 path path2 since since2 (schemes, authorities, kept) p p2 s s2 = (
  sym p ∙ same_path ∙ p2,
  sym s ∙ ap (λ d. since_token (query_of d)) kept ∙ s2,
)
  where
    same_path : uri_path target ≡ uri_path target2
    same_path = ap₂ (λ d scheme. if not (length d == 0) || is_some scheme then path_of d else [])
        kept schemes

pub one_request : (bytes method path method2 path2 : List ℕ) (minor minor2 : ℕ)
    (since since2 : Option (List ℕ))
    → Requests bytes method path minor since → Requests bytes method2 path2 minor2 since2
    → AreOne method path method2 path2 minor minor2 since since2
one_request bytes method path method2 path2 minor minor2 since since2 a b =
    let heads : a.head ≡ b.head =
    (request_unique bytes a.head b.head a.is_request.rest b.is_request.rest
    a.is_request.begins.reads b.is_request.begins.reads).0 in
    let spells : Spells b.head.target a.target = subst (λ h. Spells h.target a.target) heads
    a.is_request.spells in
    let targets = one_target a.target b.target path path2 since since2
    (Spells_unique b.head.target a.target b.target spells b.is_request.spells) a.path_is
    b.path_is a.since_is b.since_is in
    record {
      methods = sym a.method_is ∙ ap (λ h. h.method) heads ∙ b.method_is;
      paths = targets.0;
      minors = sym a.minor_is ∙ ap (λ h. h.minor) heads ∙ b.minor_is;
      sinces = targets.1;
    }

-- what rules out each answer but the one that is asked for
pub asked_once : (bytes contest : List ℕ) (a b : Asked) → Asks bytes contest a
    → Asks bytes contest b → a ≡ b
asked_once bytes contest (refused LargeHead) (refused LargeHead) h k = refl
asked_once bytes contest (refused LargeHead) (refused Unreadable) h k = absurd (k.0 h)
asked_once bytes contest (refused LargeHead) (refused NotGet) h
    (method, path, other, (minor, since, r)) = absurd
    (asks_no_large bytes method path minor since r h)
asked_once bytes contest (refused LargeHead) (refused OtherPath) h
    (path, other, (minor, since, r)) = absurd (asks_no_large bytes _ path minor since r h)
asked_once bytes contest (refused LargeHead) (refused NothingPublished) h k = absurd k
asked_once bytes contest (refused LargeHead) (refused TokenNotHeld) h k = absurd k
asked_once bytes contest (refused LargeHead) (feed minor since) h r = absurd
    (asks_no_large bytes _ _ minor since r h)
asked_once bytes contest (refused Unreadable) (refused LargeHead) h k = absurd (h.0 k)
asked_once bytes contest (refused Unreadable) (refused Unreadable) h k = refl
asked_once bytes contest (refused Unreadable) (refused NotGet) h
    (method, path, other, (minor, since, r)) = absurd
    (asks_readable bytes method path minor since r h.1)
asked_once bytes contest (refused Unreadable) (refused OtherPath) h
    (path, other, (minor, since, r)) = absurd (asks_readable bytes _ path minor since r h.1)
asked_once bytes contest (refused Unreadable) (refused NothingPublished) h k = absurd k
asked_once bytes contest (refused Unreadable) (refused TokenNotHeld) h k = absurd k
asked_once bytes contest (refused Unreadable) (feed minor since) h r = absurd
    (asks_readable bytes _ _ minor since r h.1)
asked_once bytes contest (refused NotGet) (refused LargeHead)
    (method, path, other, (minor, since, r)) k = absurd
    (asks_no_large bytes method path minor since r k)
asked_once bytes contest (refused NotGet) (refused Unreadable)
    (method, path, other, (minor, since, r)) k = absurd
    (asks_readable bytes method path minor since r k.1)
asked_once bytes contest (refused NotGet) (refused NotGet) h k = refl
asked_once bytes contest (refused NotGet) (refused OtherPath)
    (method, path, other, (minor, since, r)) (path2, other2, (minor2, since2, r2)) =
    absurd (other (one_request bytes method path _ path2 minor minor2 since since2 r r2).methods)
asked_once bytes contest (refused NotGet) (refused NothingPublished) h k = absurd k
asked_once bytes contest (refused NotGet) (refused TokenNotHeld) h k = absurd k
asked_once bytes contest (refused NotGet) (feed minor2 since2)
    (method, path, other, (minor, since, r)) r2 =
    absurd (other (one_request bytes method path _ _ minor minor2 since since2 r r2).methods)
asked_once bytes contest (refused OtherPath) (refused LargeHead)
    (path, other, (minor, since, r)) k = absurd (asks_no_large bytes _ path minor since r k)
asked_once bytes contest (refused OtherPath) (refused Unreadable)
    (path, other, (minor, since, r)) k = absurd (asks_readable bytes _ path minor since r k.1)
asked_once bytes contest (refused OtherPath) (refused NotGet) (path2, other2, (minor2, since2, r2))
    (method, path, other, (minor, since, r)) =
    absurd (other (one_request bytes method path _ path2 minor minor2 since since2 r r2).methods)
asked_once bytes contest (refused OtherPath) (refused OtherPath) h k = refl
asked_once bytes contest (refused OtherPath) (refused NothingPublished) h k = absurd k
asked_once bytes contest (refused OtherPath) (refused TokenNotHeld) h k = absurd k
asked_once bytes contest (refused OtherPath) (feed minor2 since2)
    (path, other, (minor, since, r)) r2 =
    absurd (other (one_request bytes _ path _ _ minor minor2 since since2 r r2).paths)
asked_once bytes contest (refused NothingPublished) b h k = absurd h
asked_once bytes contest (refused TokenNotHeld) b h k = absurd h
asked_once bytes contest (feed minor since) (refused LargeHead) r k = absurd
    (asks_no_large bytes _ _ minor since r k)
asked_once bytes contest (feed minor since) (refused Unreadable) r k = absurd
    (asks_readable bytes _ _ minor since r k.1)
asked_once bytes contest (feed minor2 since2) (refused NotGet) r2
    (method, path, other, (minor, since, r)) =
    absurd (other (one_request bytes method path _ _ minor minor2 since since2 r r2).methods)
asked_once bytes contest (feed minor2 since2) (refused OtherPath) r2
    (path, other, (minor, since, r)) =
    absurd (other (one_request bytes _ path _ _ minor minor2 since since2 r r2).paths)
asked_once bytes contest (feed minor since) (refused NothingPublished) r k = absurd k
asked_once bytes contest (feed minor since) (refused TokenNotHeld) r k = absurd k
asked_once bytes contest (feed minor since) (feed minor2 since2) r r2 =
    let one = one_request bytes _ _ _ _ minor minor2 since since2 r r2 in
    ap₂ feed one.minors one.sinces
