-- Which pages can be sent.
use Rattle.std.specs.Prelude.{ℕ, ◌≤◌, length, All}
use Rattle.blob_id.specs.Id.{IsId}
use Rattle.find_token.specs.declared.page.Page.{Page}
use Rattle.find_token.specs.Tokens.{IsToken}

-- A page has at most 64 entries, each of an id, and its token has a spelling.
pub record IsPage (page : Page) : Type 0 where
  pub count : length page.entries ≤ 64
  pub ids : All (λ entry. IsId entry.id) page.entries
  pub next : IsToken page.next
