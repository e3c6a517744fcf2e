-- where the shared words of a machine stand, what they are at the start, and which numbers they may be
use Rattle.std.specs.Prelude.{ℕ, ◌+◌, ◌-◌, ◌*◌, ◌^◌, ◌==◌, nat_lt, nat_le, ◌&&◌, Bool, true, List, ◌∷◌, ◌++◌, map, replicate, length}
use Rattle.plat_base.specs.Machine.{Machine}
use Rattle.plat_base.specs.Pages.{numbers, program_of}
use Rattle.plat_base.specs.Decide.{is_dir}
use Rattle.plat_base.specs.declared.limits.TheConstants.{SPACES, MOST_ITEMS}
use Rattle.plat_base.specs.declared.words.WordName.{WordName}
use Rattle.plat_base.specs.declared.words.WordName.TheVariants as word
use Rattle.plat_events.specs.Words.{most_nodes, bits_from, dir_word, dir_read, is_locked, seq_read, version_read}

abbrev pub entry_count : Machine → ℕ
entry_count m = length m.entries

-- the number of words
abbrev pub word_count : Machine → ℕ
word_count m = 2 + 3 * m.nodes + 2 * m.pages + entry_count m + m.nodes * m.frames * m.words

-- the place of a word, from 0
abbrev pub place_of : Machine → WordName → ℕ
place_of m word.Time = 0
place_of m word.Live = 1
place_of m (word.Act q) = 2 + q
place_of m (word.Intr q) = 2 + m.nodes + q
place_of m (word.Dir p) = 2 + 2 * m.nodes + p
place_of m (word.Stamp p) = 2 + 2 * m.nodes + m.pages + p
place_of m (word.Cmap e) = 2 + 2 * m.nodes + 2 * m.pages + e
place_of m (word.Pool mo) = 2 + 2 * m.nodes + 2 * m.pages + entry_count m + mo
place_of m (word.Memory mo number w) =
    2 + 3 * m.nodes + 2 * m.pages + entry_count m + (mo * m.frames + number) * m.words + w

-- the machine has this word
abbrev pub is_name : Machine → WordName → Bool
is_name m word.Time = true
is_name m word.Live = true
is_name m (word.Act q) = nat_lt q m.nodes
is_name m (word.Intr q) = nat_lt q m.nodes
is_name m (word.Dir p) = nat_lt p m.pages
is_name m (word.Stamp p) = nat_lt p m.pages
is_name m (word.Cmap e) = nat_lt e (entry_count m)
is_name m (word.Pool mo) = nat_lt mo m.nodes
is_name m (word.Memory mo number w) = nat_lt mo m.nodes && nat_lt number m.frames && nat_lt w m.words

-- the words at the start, in the order of their places: no turn was made, every processor is live and active in the space
-- that its guest starts in, and every frame is free
abbrev pub first_words : Machine → List ℕ
first_words m =
    0 ∷ m.nodes ∷ map (λ q. (program_of m q).space + 1) (numbers m.nodes)
    ++ replicate m.nodes 0
    ++ replicate m.pages 0
    ++ replicate m.pages 0
    ++ replicate (entry_count m) 0
    ++ replicate m.nodes (2 ^ m.frames - 1)
    ++ replicate (m.nodes * m.frames * m.words) 0

-- ---- words within a machine: encodings of their kinds, all of whose numbers the machine can have

-- each of the three parts of a mask names processors of the machine
abbrev pub is_mask_word : Machine → ℕ → Bool
is_mask_word m n =
    nat_lt n (2 ^ (3 * most_nodes)) && nat_lt (bits_from n 0 most_nodes) (2 ^ m.nodes)
    && nat_lt (bits_from n most_nodes most_nodes) (2 ^ m.nodes) && nat_lt (bits_from n (2 * most_nodes) most_nodes) (2 ^ m.nodes)

-- writing what is read gives the number back, and the directory is one of the machine
abbrev pub is_dir_word : Machine → ℕ → Bool
is_dir_word m n = dir_word (dir_read n) (is_locked n) == n && is_dir m (dir_read n)

-- the most changes that a page can have: the items of the longest history
abbrev pub most_changes : ℕ
most_changes = MOST_ITEMS

abbrev pub is_stamp_word : Machine → ℕ → Bool
is_stamp_word m n = nat_lt n (2 ^ 64) && nat_le (bits_from n 0 32) (m.nodes * m.budget + 1) && nat_le (seq_read n) most_changes

abbrev pub is_data_word : Machine → ℕ → Bool
is_data_word m n = nat_lt n (2 ^ 64) && nat_le (version_read n) (m.nodes * m.budget)

-- this word of the machine may be this number
abbrev pub is_word : Machine → WordName → ℕ → Bool
is_word m word.Time n = nat_le n (m.nodes * m.budget)
is_word m word.Live n = nat_le n m.nodes
is_word m (word.Act q) n = nat_le n SPACES
is_word m (word.Intr q) n = nat_lt n (2 ^ SPACES)
is_word m (word.Dir p) n = is_dir_word m n
is_word m (word.Stamp p) n = is_stamp_word m n
is_word m (word.Cmap e) n = is_mask_word m n
is_word m (word.Pool mo) n = nat_lt n (2 ^ m.frames)
is_word m (word.Memory mo number w) n = is_data_word m n
