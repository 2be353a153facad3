-- Pages, place by place and page by page.
pub mod Pages
pub mod Asks
pub mod Laid
