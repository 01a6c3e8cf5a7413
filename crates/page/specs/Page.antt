-- What a page shows, and where it stands.
use Rattle.std.specs.Prelude.{List, [], ◌++◌, ℕ, ◌-◌, length, take}
use Rattle.page.specs.declared.Page.{Page as OnBuffer}

-- its text so far, how many bytes more it takes, and how many in all; and the lent buffer that it stands in, by the name of the borrow
pub record Page : Type 0 where
  pub text : List ℕ
  pub room : ℕ
  pub capacity : ℕ
  pub lent : ℕ

-- the text is the front of the buffer, so the buffer begins with it also once the page is gone
abbrev pub shown : OnBuffer → Page
shown p =
    record {
      text = take p.end p.bytes.now;
      room = length p.bytes.now - p.end;
      capacity = length p.bytes.now;
      lent = p.bytes.ghost_name;
    }

-- a page with nothing on it
abbrev pub blank : (capacity lent : ℕ) → Page
blank capacity lent = record { text = []; room = capacity; capacity = capacity; lent = lent }

-- a text more
abbrev pub with_text : List ℕ → Page → Page
with_text more p = record { text = p.text ++ more; room = p.room - length more; capacity = p.capacity; lent = p.lent }
