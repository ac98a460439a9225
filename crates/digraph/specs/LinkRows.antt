-- What the rows of links hold.
use Rattle.std.specs.Prelude.{◌≡◌, ℕ, ◌+◌, List, ◌++◌, length, map, take}
use Rattle.digraph.specs.declared.links.Link.{Link}
use Rattle.digraph.specs.KeyList.{IsLinked}

abbrev pub keys_of : List Link → List ℕ
keys_of links = map (λ link. link.key) links

abbrev pub previous_of : List Link → List ℕ
previous_of links = map (λ link. link.previous) links

-- Behind the first rows stand rows of more keys, and all are linked.
pub record PutsKeys (first : ℕ) (more : List ℕ) (old_links : List Link) (old_last : List ℕ) (links : List Link) (last : List ℕ) : Type 0 where
  pub linked : IsLinked (first + length more) (keys_of links) last (previous_of links)
  pub keys : take (first + length more) (keys_of links) ≡ take first (keys_of old_links) ++ more
  pub room : length links ≡ length old_links
  pub kinds : length last ≡ length old_last
